-- What macro expansion keeps: the names in symbols are sound, and no key is a text of a built-in item. Assumes nothing.
use mathlib.Core.Path.{◌≡◌, refl}
use mathlib.Core.Bool.{Bool, true, false, cond, ◌&&◌, not}
use mathlib.Mathlib.Data.Bool.Basic.{and_elim_left}
use mathlib.Core.List.{List, [], ◌∷◌, ◌++◌}
use mathlib.Core.Option.{some}
use Prim.Native.Nat.{ℕ, zero, suc}
use Rattle.octets.specs.Working.Choice.{pick}
use Rattle.octets.specs.Plain.Runs.{same_as}
use Rattle.parse_tree.specs.Plain.Tree.{Text, Op, star, plus, question, Leaf, Around, Over, Sym, Syms, ambiguous, bare, quoted, regex, nonterminal, lookahead, lookbehind, error, repeat, choose, name, macro, group, leaf, around, over, nil, cons, Alternative, Nonterminal, Item, item}
use Rattle.parse_tree.specs.Plain.Texts.{has, is_name, is_identifier, starts_name, every, mut_text, error_text}
use Rattle.parse_tree.specs.Plain.Display.{print}
use Rattle.parse_tree.specs.Working.Within.{Each, LeafWithin, AroundWithin, OverWithin, SymWithin, SymsWithin}
use Rattle.parse_tree.specs.declared.syntax.Span.{Span}
use Rattle.passes.specs.Outcome.{Tree, yes, no, simple}
use Rattle.passes.specs.Macros.{Pending, looking, repeating, listing, symbol_of, expand_lookaround_symbol, MacroExpander, push, replace_around, replace_symbol, replace_symbols, replace_alternatives, replace_items, at, argument_of, or_name, macro_expand_symbol, macro_expand_symbols, macro_in, expand_repeat_symbol, expand_expr_symbol, expand_symbol, drain, has_name, group_action, made, one_chosen, v_name, e_name}
use Rattle.passes.specs.Views.{Look, ahead, behind}
use Rattle.passes.proofs.Outcomes.{no≢yes, after-yes}
use Rattle.passes.proofs.ResolveKeeps.{yes_as}
use Rattle.passes.proofs.MacrosKeep.{macro_found, call_keeps}
use Rattle.laws.specs.Keys.{SoundText, Expands, LeafSound, AroundSound, OverSound, SymSound, SymsSound, AlternativeSound, ItemSound, Piled}
use Rattle.laws.proofs.Prints.{unlike_start, print-built, print-sound, ident_sound}

-- ---- pushing
pending_expands : (x : Pending) → Expands (symbol_of x)
pending_expands (looking s ahead) = tt
pending_expands (looking s behind) = tt
pending_expands (repeating s o x) = tt
pending_expands (listing s o xs) = tt

push-sound : (x : Pending) (σ : MacroExpander) → SymSound (symbol_of x) → Piled σ → SymSound (push x σ).0 × Piled (push x σ).1
unfolding push
push-sound x σ h p = (print-sound (symbol_of x) h, go (has (print (symbol_of x)) σ.keys))
  where
    go : (b : Bool) → Piled (cond b σ (record { keys = print (symbol_of x) ∷ σ.keys; pile = x ∷ σ.pile }))
    go true = p
    go false = record { keys = (print-built (symbol_of x) (pending_expands x) h, p.keys); pile = (h, p.pile) }

-- ---- replacing
leaf_sound : (s : Span) (l : Leaf) (σ : MacroExpander) → LeafSound l → Piled σ → SymSound (replace_symbol (leaf s l) σ).0 × Piled (replace_symbol (leaf s l) σ).1
unfolding replace_symbol
leaf_sound s (ambiguous n) σ h p = (h, p)
leaf_sound s (bare n) σ h p = (h, p)
leaf_sound s (quoted t) σ h p = (h, p)
leaf_sound s (regex t) σ h p = (h, p)
leaf_sound s (nonterminal n) σ h p = (h, p)
leaf_sound s lookahead σ h p = push-sound (looking s ahead) σ tt p
leaf_sound s lookbehind σ h p = push-sound (looking s behind) σ tt p
leaf_sound s error σ h p = (h, p)

around_sound : (s : Span) (a : Around) (q : Sym × MacroExpander) → AroundSound a → SymSound q.0 × Piled q.1 → SymSound (replace_around s a q).0 × Piled (replace_around s a q).1
around_sound s (repeat o) q h p = push-sound (repeating s o q.0) q.1 (h, p.0) p.1
around_sound s choose q h p = ((h, p.0), p.1)
around_sound s (name m n) q h p = ((h, p.0), p.1)

mutual
  unfolding replace_symbol

  pub replace_sound : (x : Sym) (σ : MacroExpander) → SymSound x → Piled σ → SymSound (replace_symbol x σ).0 × Piled (replace_symbol x σ).1
  replace_sound (leaf s l) σ h p = leaf_sound s l σ h p
  replace_sound (around s a x) σ h p = around_sound s a (replace_symbol x σ) h.0 (replace_sound x σ h.1 p)
  replace_sound (over s o xs) σ h p = let r = replace_all_sound xs σ h.1 p in push-sound (listing s o (replace_symbols xs σ).0) (replace_symbols xs σ).1 (h.0, r.0) r.1

  pub replace_all_sound : (xs : Syms) (σ : MacroExpander) → SymsSound xs → Piled σ → SymsSound (replace_symbols xs σ).0 × Piled (replace_symbols xs σ).1
  replace_all_sound nil σ h p = (tt, p)
  replace_all_sound (cons x xs) σ h p =
      let r = replace_sound x σ h.0 p in
      let t = replace_all_sound xs (replace_symbol x σ).1 h.1 r.1 in
      ((r.0, t.0), t.1)

replace_alternatives_sound : (as' : List Alternative) (σ : MacroExpander) → Each AlternativeSound as' → Piled σ → Each AlternativeSound (replace_alternatives as' σ).0 × Piled (replace_alternatives as' σ).1
unfolding replace_alternatives
replace_alternatives_sound [] σ h p = (tt, p)
replace_alternatives_sound (a ∷ rest) σ h p =
    let r = replace_all_sound a.symbols σ h.0 p in
    let t = replace_alternatives_sound rest (replace_symbols a.symbols σ).1 h.1 r.1 in
    ((r.0, t.0), t.1)

pub replace_items_sound : (is : List Item) (σ : MacroExpander) → Each ItemSound is → Piled σ → Each ItemSound (replace_items is σ).0 × Piled (replace_items is σ).1
unfolding replace_items
replace_items_sound [] σ h p = (tt, p)
replace_items_sound (item d ∷ rest) σ h p =
    let r = replace_alternatives_sound d.alternatives σ h.0 p in
    let t = replace_items_sound rest (replace_alternatives d.alternatives σ).1 h.1 r.1 in
    ((r.0, t.0), t.1)
replace_items_sound (Item.terminal s o n ∷ rest) σ h p = let t = replace_items_sound rest σ h.1 p in ((tt, t.0), t.1)

-- ---- a macro's arguments put in
at-sound : (s : Span) (x : Sym) → SymSound x → SymSound (at s x)
at-sound s (leaf t l) h = h
at-sound s (around t a x) h = h
at-sound s (over t o xs) h = h

argument-sound : (s : Span) (n : Text) (ps : List Text) (xs : Syms) → SoundText n → SymsSound xs → SymSound (or_name s n (argument_of ps xs n))
argument-sound s n [] xs h k = h
argument-sound s n (p ∷ ps) nil h k = h
argument-sound s n (p ∷ ps) (cons x xs) h k = go (same_as n p) (argument-sound s n ps xs h k.1)
  where
    go : (b : Bool) → SymSound (or_name s n (argument_of ps xs n)) → SymSound (or_name s n (cond b (some x) (argument_of ps xs n)))
    go true i = at-sound s x k.0
    go false i = i

module _ (ps : List Text) (args : Syms) (k : SymsSound args) where
  put_leaf_sound : (s : Span) (l : Leaf) → LeafSound l → SymSound (macro_expand_symbol ps args (leaf s l))
  unfolding macro_expand_symbol
  put_leaf_sound s (ambiguous n) h = h
  put_leaf_sound s (bare n) h = h
  put_leaf_sound s (quoted t) h = h
  put_leaf_sound s (regex t) h = h
  put_leaf_sound s (nonterminal n) h = argument-sound s n ps args h k
  put_leaf_sound s lookahead h = h
  put_leaf_sound s lookbehind h = h
  put_leaf_sound s error h = h

  mutual
    unfolding macro_expand_symbol

    put_sound : (x : Sym) → SymSound x → SymSound (macro_expand_symbol ps args x)
    put_sound (leaf s l) h = put_leaf_sound s l h
    put_sound (around s a x) h = (h.0, put_sound x h.1)
    put_sound (over s o xs) h = (h.0, put_all_sound xs h.1)

    put_all_sound : (xs : Syms) → SymsSound xs → SymsSound (macro_expand_symbols ps args xs)
    put_all_sound nil h = tt
    put_all_sound (cons x xs) h = (put_sound x h.0, put_all_sound xs h.1)

-- ---- the items of popped symbols
v_ident : is_identifier v_name ≡ true
unfolding is_identifier starts_name every
v_ident = refl

e_ident : is_identifier e_name ≡ true
unfolding is_identifier starts_name every
e_ident = refl

repeat_sound : (s : Span) (key : Text) (o : Op) (x : Sym) → SymSound x → SoundText key → Each AlternativeSound (expand_repeat_symbol s key o x).alternatives
repeat_sound s key star x h k = (tt, (((v_ident, (tt, h)), tt), tt))
repeat_sound s key plus x h k = ((h, tt), (((v_ident, k), ((e_ident, h), tt)), tt))
repeat_sound s key question x h k = ((h, tt), (tt, tt))

group_sound : (s : Span) (key : Text) (xs : Syms) (d : Nonterminal) → SymsSound xs → expand_expr_symbol s key xs ≡ yes d → Each AlternativeSound d.alternatives
group_sound s key xs d h e = go (has_name xs) e
  where
    go : (b : Bool) → cond b (no 19 s) (yes (made s key true (simple s (group_action xs) xs ∷ []))) ≡ yes d → Each AlternativeSound d.alternatives
    go true f = absurd (no≢yes 19 s d f)
    go false f = yes_as (λ c. Each AlternativeSound c.alternatives) f (h, tt)

look_sound : (s : Span) (key : Text) (k : Look) → Each AlternativeSound (expand_lookaround_symbol s key k).alternatives
look_sound s key ahead = (tt, tt)
look_sound s key behind = (tt, tt)

pub expand_sound : (G : Tree) (x : Pending) (d : Nonterminal) → Each ItemSound G → SymSound (symbol_of x) → expand_symbol G x ≡ yes d → ItemSound (item d)
unfolding expand_symbol
expand_sound G (looking s k) d g h e = yes_as (λ c. Each AlternativeSound c.alternatives) e (look_sound s _ k)
expand_sound G (repeating s o x) d g h e = yes_as (λ c. Each AlternativeSound c.alternatives) e (repeat_sound s _ o x h.1 (print-sound (around s (repeat o) x) h))
expand_sound G (listing s (macro n) xs) d g h e = call_keeps AlternativeSound s xs (λ ps a k. put_all_sound ps xs h.1 a.symbols k) ItemSound (λ m k. k) _ (λ m bs k. k) (macro_in G n) d (macro_found ItemSound G n g) e
expand_sound G (listing s group xs) d g h e = group_sound s _ xs d h.1 e

pub drain-sound : (G : Tree) (xs : List Pending) (is : List Item) → Each ItemSound G → Each (λ x. SymSound (symbol_of x)) xs → drain G xs ≡ yes is → Each ItemSound is
unfolding drain
drain-sound G [] is g h e = yes_as (Each ItemSound) e tt
drain-sound G (x ∷ xs) is g h e =
    let (d, p, q) = after-yes (expand_symbol G x) _ is e in
    let (ds, r, t) = after-yes (drain G xs) _ is q in
    yes_as (Each ItemSound) t (expand_sound G x d g h.0 p, drain-sound G xs ds g h.1 r)

-- ---- where it starts: the symbols of a tape that passed question 4, and the names of levels
name_bytes_lem : (n : Text) → is_name n ≡ true → is_identifier n ≡ true
unfolding is_name
name_bytes_lem n e = and_elim_left (is_identifier n) (not (same_as n mut_text) && not (same_as n error_text)) e

-- theorem: a level's name: an identifier, and digits
pub level_sound : (n r : Text) → is_identifier n ≡ true → SoundText (n ++ r)
unfolding starts_name
level_sound n r h = record { some = λ p. unlike_start n r [] h refl p; other = λ p. unlike_start n r one_chosen h refl p }

module _ (w : ℕ) (ts : List Text) where
  leaf_within_sound : (l : Leaf) → LeafWithin true w ts l → LeafSound l
  unfolding pick
  leaf_within_sound (ambiguous n) h = ident_sound n (name_bytes_lem n h.2)
  leaf_within_sound (bare n) h = ident_sound n (name_bytes_lem n h.2)
  leaf_within_sound (quoted t) h = tt
  leaf_within_sound (regex t) h = tt
  leaf_within_sound (nonterminal n) h = ident_sound n (name_bytes_lem n h.2)
  leaf_within_sound lookahead h = tt
  leaf_within_sound lookbehind h = tt
  leaf_within_sound error h = tt

  around_within_sound : (a : Around) → AroundWithin true w ts a → AroundSound a
  unfolding pick
  around_within_sound (repeat o) h = tt
  around_within_sound choose h = tt
  around_within_sound (name m n) h = name_bytes_lem n h.2

  over_within_sound : (o : Over) (k : ℕ) → OverWithin true w ts o k → OverSound o
  unfolding pick
  over_within_sound (macro n) k h = name_bytes_lem n h.0.2
  over_within_sound group k h = tt

  mutual
    pub within_sound : (x : Sym) (left : ℕ) → SymWithin true w ts x left → SymSound x
    within_sound (leaf s l) zero h = absurd h
    within_sound (leaf s l) (suc left) h = leaf_within_sound l h.1
    within_sound (around s a x) zero h = absurd h
    within_sound (around s a x) (suc left) h = (around_within_sound a h.1, within_sound x left h.2)
    within_sound (over s o xs) zero h = absurd h
    within_sound (over s o xs) (suc left) h = (over_within_sound o _ h.1, within_all_sound xs left h.2)

    pub within_all_sound : (xs : Syms) (left : ℕ) → SymsWithin true w ts xs left → SymsSound xs
    within_all_sound nil left h = tt
    within_all_sound (cons x xs) left h = (within_sound x left h.0, within_all_sound xs left h.1)
