-- Both premises of demand 3 are needed: two trees, each without one of them, that the call for all accepts and changes in meaning. Assumes nothing.
use mathlib.Core.Path.{◌≡◌, refl, sym, ap}
use mathlib.Core.Bool.{Bool, true, false, false≢true, not}
use mathlib.Core.List.{List, [], ◌∷◌, Memᴰ}
use mathlib.Core.Option.{none}
use Prim.Native.Nat.{ℕ}
use Rattle.octets.specs.Working.Choice.{pick}
use Rattle.octets.specs.Plain.Numbers.{le, le_at}
use Rattle.octets.specs.Plain.Runs.{part, same_as}
use Rattle.parse_tree.specs.Plain.Tree.{Text, Around, Sym, Alternative, Nonterminal, Item, bare, repeat, star, macro, leaf, around, over, user, item, count, syms_of}
use Rattle.parse_tree.specs.Plain.Texts.{every, starts_name, in_name, is_identifier, is_name, is_literal, is_ascii, has, number, distinct, with_new}
use Rattle.parse_tree.specs.Plain.Display.{escaped, shown_leaf, shown_before, shown_behind, opening, shown, print}
use Rattle.parse_tree.specs.Plain.Reading.{then, times}
use Rattle.parse_tree.specs.Plain.References.{texts_of_each, leaf_texts, around_texts, over_texts, sym_texts, action_texts, attribute_texts, condition_texts, alternative_texts, item_texts, stage_of}
use Rattle.parse_tree.specs.Plain.WriteTape.{bytes_of_each, coded, atom_tape, leaf_tape, around_tape, over_tape, sym_tape, action_tape, attribute_tape, condition_tape, alternative_tape, item_tape, tape_of}
use Rattle.parse_tree.specs.Plain.ReadTape.{asked, command_at, symbol_at, argument_at, attribute_at, condition_at, alternative_at, item_at, items_at, atoms_at, read_tape}
use Rattle.parse_tree.specs.Working.Within.{Each}
use Rattle.passes.specs.Outcome.{Tree, Outcome, yes}
use Rattle.passes.specs.Grades.{annotated}
use Rattle.passes.specs.Resolve.{check_globals, validate_symbol, validate_alternatives, validate_items, resolve}
use Rattle.passes.specs.Levels.{levels_of, of_level, groups_of, occurs, replace_occurrences, substituted, with_fall_through, level_items, levelled, check_levels, levels}
use Rattle.passes.specs.Macros.{push, replace_symbol, replace_alternatives, replace_items, macro_expand_symbol, expand_alternatives, expand_symbol, drain, vec_none, vec_one, pushed, v_name, e_name}
use Rattle.passes.specs.Sizes.{stage_fits}
use Rattle.passes.specs.Stages.{resolve_stage, level_stage, rounds, macro_stages, all_stages}
use Rattle.passes.specs.Passes.{items_of}
use Rattle.passes.specs.Calls.{sizes, validate_call, whole}
use Rattle.passes.proofs.Build.{at, name, to, quote, list, level, alternative, nt}
use Rattle.meaning.specs.Phrases.{Token, quoted_token, Phrase, Phrases, token, reference, call, repeated, pnil, pcons, DerivesFrom, DeriveFrom, d_token, d_step, d_nil, d_cons}
use Rattle.meaning.specs.Meaning.{mean, named, put, Derives, DerivesExpanded, s_plain, s_call, s_star_plus, s_plus_one}
use Rattle.meaning.specs.Premises.{UnmarkedSyms, Unmarked}
use Rattle.meaning.proofs.Never.{has_arguments, never}
use Rattle.meaning.proofs.Basics.{each_at}

abbrev pub plain : Text → List Sym → Item
plain n xs = nt (at 0 0) n [] (alternative (at 0 0) [] xs ∷ [])

abbrev pub acting : Text → List Sym → Alternative
acting t xs = record { span = at 0 0; attributes = []; condition = none; action = user t; symbols = list xs }

abbrev pub new : Text → Bool → List Alternative → Item
new t b as' = item (record { span = at 0 0; name = t; inline = b; public = false; args = []; alternatives = as' })

-- nonterminals, and the tokens "x" and "n"
abbrev pub s : Text
s = 83 ∷ []

abbrev pub t : Text
t = 84 ∷ []

abbrev pub x : Token
x = quoted_token (120 ∷ [])

abbrev pub n : Token
n = quoted_token (110 ∷ [])

-- the tape of a tree, and the trees that the calls read from it and write for it
abbrev pub tape : Tree → List ℕ
tape G = tape_of 2 (stage_of [] G)

abbrev pub read : Tree → Outcome Tree
read G = items_of (validate_call true 2 (tape G) 2000 20000)

abbrev pub expand : Tree → Outcome Tree
expand G = items_of (whole true 2 (tape G) 2 2000 20000)

-- a derivation of one token through one phrase
through : (R : Phrase → Phrases → Type 0) (m : Phrase) (u : Token) → DerivesFrom R m (u ∷ []) → DeriveFrom R (pcons m pnil) (u ∷ [])
through R m u d = d_cons (u ∷ []) [] refl d (d_nil refl)

abbrev pub a : Text
a = 65 ∷ []

abbrev pub a_star : Text
a_star = 65 ∷ 42 ∷ []

abbrev pub a_plus : Text
a_plus = 65 ∷ 43 ∷ []

-- ---- a resolved identifier: S = 21 A `*`, T = A `*`, A = "x". Both repeats print `A*` and share one item, which is made of the 21:
-- so T, which derives "x", derives it no more
abbrev pub bare_a : Sym
bare_a = leaf (at 0 0) (bare a)

abbrev pub sharing : List Item
sharing = plain s (around (at 0 0) (repeat star) bare_a ∷ []) ∷ plain t (around (at 0 0) (repeat star) (name a) ∷ []) ∷ plain a (quote 120 ∷ []) ∷ []

-- an item without arguments
abbrev Argless : Item → Type 0
Argless (item d) = d.args ≡ []
Argless (Item.terminal p o k) = Unit {0}

abbrev pub called : Text → Sym → Sym
called v x = around (at 0 0) (Around.name false v) x

abbrev pub shared : List Item
shared =
    plain s (to a_star ∷ [])
    ∷ plain t (to a_star ∷ [])
    ∷ plain a (quote 120 ∷ [])
    ∷ new a_star true (acting vec_none [] ∷ acting v_name (called v_name (to a_plus) ∷ []) ∷ [])
    ∷ new a_plus false (acting vec_one (bare_a ∷ []) ∷ acting pushed (called v_name (to a_plus) ∷ called e_name bare_a ∷ []) ∷ [])
    ∷ []

-- theorem: no nonterminal of `sharing` has arguments
pub sharing_no_macro : (d : Nonterminal) → Memᴰ (item d) sharing → annotated d ≡ true → d.args ≡ []
sharing_no_macro d i h = each_at Argless sharing (item d) (refl, (refl, (refl, tt))) i

-- theorem: but an identifier is resolved, so that the premises fail
pub sharing_resolved : Unmarked sharing → ⊥
unfolding syms_of
sharing_resolved p = (p.symbols _ (Memᴰ.head refl) _ (Memᴰ.head refl)).0

-- theorem: its tape is read as it is, and the call for all makes `shared` of it, with one item for the two repeats
pub one_item_for_two : (read sharing ≡ yes sharing) × (expand sharing ≡ yes shared)
unfolding pick same_as count syms_of has distinct escaped shown_leaf shown_before shown_behind opening shown print check_globals validate_symbol validate_alternatives validate_items resolve levels_of of_level groups_of occurs replace_occurrences substituted with_fall_through level_items levelled check_levels levels push replace_symbol replace_alternatives replace_items macro_expand_symbol expand_alternatives expand_symbol drain rounds macro_stages all_stages resolve_stage level_stage stage_of le le_at part every starts_name in_name is_identifier is_name is_literal is_ascii number with_new then times texts_of_each leaf_texts around_texts over_texts sym_texts action_texts attribute_texts condition_texts alternative_texts item_texts bytes_of_each coded atom_tape leaf_tape around_tape over_tape sym_tape action_tape attribute_tape condition_tape alternative_tape item_tape tape_of asked command_at symbol_at argument_at attribute_at condition_at alternative_at item_at items_at atoms_at read_tape stage_fits sizes validate_call whole
one_item_for_two = (refl, refl)

-- theorem: T derives "x" in the tree handed in
pub sharing_derives : Derives sharing t (x ∷ [])
unfolding same_as has syms_of mean named
sharing_derives =
    d_step (pcons (repeated star (reference a none)) pnil) (s_plain _ _ (Memᴰ.tail (Memᴰ.head refl)) refl refl (Memᴰ.head refl) refl refl)
    (through _ _ x (d_step _ s_star_plus
    (through _ _ x (d_step _ s_plus_one
    (through _ _ x (d_step (pcons (token x) pnil) (s_plain _ _ (Memᴰ.tail (Memᴰ.tail (Memᴰ.head refl))) refl refl (Memᴰ.head refl) refl refl)
    (through _ _ x (d_token refl))))))))

-- theorem: and doesn't in the expanded one
pub shared_does_not : DerivesExpanded shared t (x ∷ []) → ⊥
unfolding same_as has syms_of mean named
shared_does_not = never false shared (λ m. not (same_as m a)) (120 ∷ []) refl t refl

-- ---- an annotated nonterminal with arguments: S = M<"x">, M<M1> = "n" at level 1, "+" at level 2. The fall-through M1 is caught by the
-- argument: S, which derives "n", derives "x" instead
abbrev pub m : Text
m = 77 ∷ []

abbrev pub m1 : Text
m1 = 77 ∷ 49 ∷ []

-- `M<"x">`
abbrev pub key : Text
key = 77 ∷ 60 ∷ 34 ∷ 120 ∷ 34 ∷ 62 ∷ []

abbrev pub catching : List Item
catching =
    plain s (over (at 0 0) (macro m) (list (quote 120 ∷ [])) ∷ [])
    ∷ nt (at 0 0) m (m1 ∷ []) (alternative (at 0 0) (level (49 ∷ []) ∷ []) (quote 110 ∷ []) ∷ alternative (at 0 0) (level (50 ∷ []) ∷ []) (quote 43 ∷ []) ∷ [])
    ∷ []

one_argument : (m1 ∷ []) ≡ [] → ⊥
one_argument e = false≢true (sym (ap has_arguments e))

-- an item whose identifiers are unresolved
abbrev UnmarkedItem : Item → Type 0
UnmarkedItem (item d) = Each (λ (c : Alternative). UnmarkedSyms c.symbols) d.alternatives
UnmarkedItem (Item.terminal p o k) = Unit {0}

abbrev pub caught : List Item
caught = plain s (to key ∷ []) ∷ nt (at 0 0) key [] (alternative (at 0 0) [] (quote 43 ∷ []) ∷ alternative (at 0 0) [] (quote 120 ∷ []) ∷ []) ∷ []

-- theorem: every identifier of `catching` is unresolved
pub catching_unresolved : (d : Nonterminal) → Memᴰ (item d) catching → (b : Alternative) → Memᴰ b d.alternatives → UnmarkedSyms b.symbols
unfolding syms_of
catching_unresolved d i b j =
    let each = each_at UnmarkedItem catching (item d) ((((tt, tt), tt), tt), (((tt, tt), ((tt, tt), tt)), tt)) i in each_at (λ (c : Alternative). UnmarkedSyms c.symbols) d.alternatives b each j

-- theorem: but an annotated nonterminal has an argument, so that the premises fail
pub catching_macro : Unmarked catching → ⊥
unfolding same_as
catching_macro p = one_argument (p.no_macro _ (Memᴰ.tail (Memᴰ.head refl)) refl)

-- theorem: its tape is read as it is, and the call for all makes `caught` of it, where the argument has caught the fall-through
pub fall_through_caught : (read catching ≡ yes catching) × (expand catching ≡ yes caught)
unfolding pick same_as count syms_of has distinct escaped shown_leaf shown_before shown_behind opening shown print check_globals validate_symbol validate_alternatives validate_items resolve levels_of of_level groups_of occurs replace_occurrences substituted with_fall_through level_items levelled check_levels levels push replace_symbol replace_alternatives replace_items macro_expand_symbol expand_alternatives expand_symbol drain rounds macro_stages all_stages resolve_stage level_stage stage_of le le_at part every starts_name in_name is_identifier is_name is_literal is_ascii number with_new then times texts_of_each leaf_texts around_texts over_texts sym_texts action_texts attribute_texts condition_texts alternative_texts item_texts bytes_of_each coded atom_tape leaf_tape around_tape over_tape sym_tape action_tape attribute_tape condition_tape alternative_tape item_tape tape_of asked command_at symbol_at argument_at attribute_at condition_at alternative_at item_at items_at atoms_at read_tape stage_fits sizes validate_call whole
fall_through_caught = (refl, refl)

-- theorem: S derives "n" in the tree handed in
pub catching_derives : Derives catching s (n ∷ [])
unfolding same_as has syms_of mean named put
catching_derives =
    d_step (pcons (call m (pcons (token x) pnil)) pnil) (s_plain _ _ (Memᴰ.head refl) refl refl (Memᴰ.head refl) refl refl)
    (through _ _ n (d_step (pcons (token n) pnil) (s_call _ _ (Memᴰ.tail (Memᴰ.head refl)) refl one_argument (Memᴰ.head refl) refl refl) (through _ _ n (d_token refl))))

-- theorem: and not "x"
pub catching_does_not : Derives catching s (x ∷ []) → ⊥
unfolding same_as has syms_of mean named
catching_does_not = never true catching (λ k. true) (120 ∷ []) refl s refl

-- theorem: in the expanded one it derives "x"
pub caught_derives : DerivesExpanded caught s (x ∷ [])
unfolding same_as has syms_of mean named
caught_derives =
    d_step (pcons (reference key none) pnil) (s_plain _ _ (Memᴰ.head refl) refl refl (Memᴰ.head refl) refl refl)
    (through _ _ x (d_step (pcons (token x) pnil) (s_plain _ _ (Memᴰ.tail (Memᴰ.head refl)) refl refl (Memᴰ.tail (Memᴰ.head refl)) refl refl) (through _ _ x (d_token refl))))

-- theorem: and not "n"
pub caught_does_not : DerivesExpanded caught s (n ∷ []) → ⊥
unfolding same_as has syms_of mean named
caught_does_not = never false caught (λ k. true) (110 ∷ []) refl s refl
