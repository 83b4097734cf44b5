-- A round pays for all new texts of its two stages, and leaves the next round what it began with. Assumes nothing.
use mathlib.Core.Path.{◌≡◌, refl, sym, ap, ◌∙◌, subst}
use mathlib.Core.Bool.{Bool, true, false, cond, false≢true}
use mathlib.Core.Logic.{◌⊎◌, inl, inr}
use mathlib.Core.List.{List, [], ◌∷◌, ◌++◌, map}
use mathlib.Core.Option.{Option, none, some}
use Prim.Native.Nat.{◌+◌, ◌*◌, ◌≤◌}
use native.Mathlib.Omega.{arith}
use lib.ListN.{length}
use Rattle.parse_tree.specs.Plain.Tree.{Text, star, plus, question, Syms, macro, group, count, Nonterminal, Item, item}
use Rattle.parse_tree.specs.Plain.Texts.{has, with_new}
use Rattle.parse_tree.specs.Plain.References.{texts_of_each, item_texts, stage_of}
use Rattle.parse_tree.specs.Plain.WriteTape.{bytes_of_each}
use Rattle.parse_tree.specs.Working.Encode.{atom_bytes}
use Rattle.parse_tree.specs.Working.Within.{Each}
use Rattle.parse_tree.specs.declared.syntax.Span.{Span}
use Rattle.parse_tree.proofs.ReadingLaws.{each_append, each_all}
use Rattle.parse_tree.proofs.AmongLaws.{has_here, has-cases, has-before, has-behind}
use Rattle.passes.specs.Outcome.{Tree, yes, no, simple}
use Rattle.passes.specs.Macros.{Pending, looking, repeating, listing, MacroExpander, replace_items, expand_alternatives, macro_in, expand_macro_symbol, expand_expr_symbol, expand_symbol, drain, has_name, group_action, made}
use Rattle.passes.specs.Views.{ahead, behind}
use Rattle.passes.proofs.Outcomes.{no≢yes, after-yes}
use Rattle.laws.specs.Counts.{heads, over_items}
use Rattle.replacing.proofs.Growing.{Extends, extends_has, extends_trans, new_append, new_extends}
use Rattle.replacing.proofs.ThereBytes.{new_all}
use Rattle.appending.proofs.SymbolsTrees.{each-parts}
use Rattle.rounds.specs.Paid.{cost24, cost20, pending_key, own_texts, Known, TreeKnown, KeysKnown}
use Rattle.rounds.proofs.PaidTexts.{new_weighs, records_24, records_20}
use Rattle.passes.proofs.ResolveKeeps.{yes_as}
use Rattle.rounds.proofs.PaidPile.{has_either, replaced_known}
use Rattle.rounds.proofs.PaidMeans.{own-paid, Told, known_own, all_known}

-- ---- texts of items, one by one and together
pub together : (P : Text → Type 0) (is : List Item) → Each (λ i. Each P (item_texts i)) is → Each P (texts_of_each item_texts is)
unfolding texts_of_each
together P [] h = tt
together P (i ∷ is) h = each_append P (item_texts i) (texts_of_each item_texts is) h.0 (together P is h.1)

pub apart : (P : Text → Type 0) (is : List Item) → Each P (texts_of_each item_texts is) → Each (λ i. Each P (item_texts i)) is
unfolding texts_of_each
apart P [] h = tt
apart P (i ∷ is) h = let (a, b) = each-parts P (item_texts i) (texts_of_each item_texts is) h in (a, apart P is b)

-- theorem: what holds of each holds of one of them
pub each_at : (P : Text → Type 0) (us : List Text) (t : Text) → Each P us → has t us ≡ true → P t
unfolding has
each_at P [] t h k = absurd (false≢true k)
each_at P (u ∷ us) t h k = go (has-cases t u us k) (each_at P us t h.1)
  where
    go : (u ≡ t) ⊎ (has t us ≡ true) → (has t us ≡ true → P t) → P t
    go (inl e) f = subst P e h.0
    go (inr j) f = f j

-- ---- an item of the pile has its symbol's key for its name
call_name : (s : Span) (key : Text) (xs : Syms) (o : Option Nonterminal) (d : Nonterminal) → expand_macro_symbol s key xs o ≡ yes d → d.name ≡ key
call_name s key xs none d e = absurd (no≢yes 11 s d e)
call_name s key xs (some m) d e =
    let (bs, f, g) = after-yes (expand_alternatives s m.args xs m.alternatives) _ d e in
    yes_as (λ c. c.name ≡ key) g refl

group_name : (s : Span) (key : Text) (xs : Syms) (d : Nonterminal) → expand_expr_symbol s key xs ≡ yes d → d.name ≡ key
group_name s key xs d e = go (has_name xs) e
  where
    go : (b : Bool) → cond b (no 19 s) (yes (made s key true (simple s (group_action xs) xs ∷ []))) ≡ yes d → d.name ≡ key
    go true f = absurd (no≢yes 19 s d f)
    go false f = yes_as (λ c. c.name ≡ key) f refl

expand_name : (G : Tree) (x : Pending) (d : Nonterminal) → expand_symbol G x ≡ yes d → d.name ≡ pending_key x
unfolding expand_symbol
expand_name G (looking s ahead) d e = yes_as (λ c. c.name ≡ pending_key (looking s ahead)) e refl
expand_name G (looking s behind) d e = yes_as (λ c. c.name ≡ pending_key (looking s behind)) e refl
expand_name G (repeating s star x) d e = yes_as (λ c. c.name ≡ pending_key (repeating s star x)) e refl
expand_name G (repeating s plus x) d e = yes_as (λ c. c.name ≡ pending_key (repeating s plus x)) e refl
expand_name G (repeating s question x) d e = yes_as (λ c. c.name ≡ pending_key (repeating s question x)) e refl
expand_name G (listing s (macro n) xs) d e = call_name s _ xs (macro_in G n) d e
expand_name G (listing s group xs) d e = group_name s _ xs d e

named : (d : Nonterminal) → has d.name (item_texts (item d)) ≡ true
unfolding item_texts
named d = has_here d.name _

drain-names : (G : Tree) (xs : List Pending) (is : List Item) (t : Text) → drain G xs ≡ yes is → has t (map pending_key xs) ≡ true → has t (texts_of_each item_texts is) ≡ true
unfolding drain texts_of_each
drain-names G [] is t e h = yes_as (λ (js : List Item). has t (texts_of_each item_texts js) ≡ true) e h
drain-names G (x ∷ xs) is t e h =
    let (d, p, q) = after-yes (expand_symbol G x) _ is e in
    let (ds, r, z) = after-yes (drain G xs) _ is q in
    yes_as (λ (js : List Item). has t (texts_of_each item_texts js) ≡ true) z (go d ds (expand_name G x d p) (drain-names G xs ds t r) (has-cases t (pending_key x) (map pending_key xs) h))
  where
    go : (d : Nonterminal) (ds : List Item) → d.name ≡ pending_key x → (has t (map pending_key xs) ≡ true → has t (texts_of_each item_texts ds) ≡ true) → (pending_key x ≡ t) ⊎ (has t (map pending_key xs) ≡ true)
        → has t (item_texts (item d) ++ texts_of_each item_texts ds) ≡ true
    go d ds n f (inl k) = has-before t (item_texts (item d)) (texts_of_each item_texts ds) (subst (λ (u : Text). has u (item_texts (item d)) ≡ true) (n ∙ k) (named d))
    go d ds n f (inr k) = has-behind t (item_texts (item d)) (texts_of_each item_texts ds) (f k)

-- ---- a round: G has the macros, ts are the former stage's texts, `old` the items already replaced, `fresh` those added since, K the keys met so far, `new` what the pile gives
module _ (G : Tree) (old fresh new : List Item) (K ts : List Text) where
  abbrev q : List Item × MacroExpander
  q = replace_items fresh (record { keys = K; pile = [] })

  abbrev pile : List Pending
  pile = q.1.pile

  abbrev first : List Text
  first = texts_of_each item_texts (old ++ q.0)

  abbrev second : List Text
  second = texts_of_each item_texts (old ++ q.0 ++ new)

  -- the texts of the appending stage
  abbrev pub after-round : List Text
  after-round = (stage_of (stage_of ts (old ++ q.0)).atoms (old ++ q.0 ++ new)).atoms

  module _ (g : TreeKnown ts G) (a : TreeKnown ts old) (b : TreeKnown ts fresh) (f : KeysKnown ts K) (e : drain G pile ≡ yes new) where
    abbrev P : Text → Type 0
    P = Told ts pile

    old_told : Each (λ i. Each P (item_texts i)) old
    old_told = each_all (λ i. Each (λ (t : Text). has t ts ≡ true) (item_texts i)) (λ i. Each P (item_texts i)) (λ i k. each_all (λ (t : Text). has t ts ≡ true) P (λ t j. inl j) (item_texts i) k) old a

    replaced_told : Each (λ i. Each P (item_texts i)) q.0
    replaced_told =
        each_all (λ i. Each (Known ts (map pending_key pile)) (item_texts i)) (λ i. Each P (item_texts i)) (λ i k. each_all (Known ts (map pending_key pile)) P (known_own ts pile) (item_texts i) k) q.0
        (replaced_known fresh K ts f b).0

    new_told : Each (λ i. Each P (item_texts i)) new
    new_told = apart P new (all_known ts pile G new g (replaced_known fresh K ts f b).1 e)

    both_told : Each (λ i. Each P (item_texts i)) (old ++ q.0)
    both_told = each_append (λ i. Each P (item_texts i)) old q.0 old_told replaced_told

    all_told : Each P (first ++ second)
    all_told = each_append P first second (together P (old ++ q.0) both_told) (together P (old ++ q.0 ++ new) (each_append (λ i. Each P (item_texts i)) (old ++ q.0) new both_told new_told))

    -- theorem: us are the texts that the round brings
    pub round_pays : (us : List Text) → after-round ≡ ts ++ us
        → (24 * length us ≤ heads new + 4 * length (bytes_of_each (atom_bytes 2) us)) × (20 * length us ≤ heads new + 9 * over_items count new + length (bytes_of_each (atom_bytes 2) us))
    unfolding stage_of
    round_pays us w =
        let z = new_append ts first second ∙ w in
        let (x, y) = own-paid G pile new e in
        let i = new_weighs cost24 ts (first ++ second) (texts_of_each own_texts pile) us all_told z in
        let j = new_weighs cost20 ts (first ++ second) (texts_of_each own_texts pile) us all_told z in
        (omega (arith, x, i, records_24 us), omega (arith, y, j, records_20 us))

    -- ---- the next round
    longer : Extends ts after-round
    unfolding stage_of
    longer = extends_trans (new_extends ts first) (new_extends (with_new ts first) second)

    there : Each (λ (t : Text). has t after-round ≡ true) second
    unfolding stage_of
    there = new_all (with_new ts first) second

    keys_next : KeysKnown after-round q.1.keys
    keys_next t k h = go (has_either t (map pending_key pile) K (ap (has t) (sym (replaced_known fresh K ts f b).2) ∙ h))
      where
        Q : Text → Type 0
        Q u = has u after-round ≡ true

        go : (has t (map pending_key pile) ≡ true) ⊎ (has t K ≡ true) → has t after-round ≡ true
        go (inl j) =
            let items = apart Q (old ++ q.0 ++ new) there in
            let (_, n) = each-parts (λ i. Each Q (item_texts i)) (old ++ q.0) new items in
            each_at Q (texts_of_each item_texts new) t (together Q new n) (drain-names G pile new t e j)
        go (inr j) = extends_has ts after-round t longer (f t k j)

    -- theorem: all is known to it
    pub round_known : TreeKnown after-round G × TreeKnown after-round (old ++ q.0) × TreeKnown after-round new × KeysKnown after-round q.1.keys
    round_known =
        let items = apart (λ (t : Text). has t after-round ≡ true) (old ++ q.0 ++ new) there in
        let (i, j) = each-parts (λ i. Each (λ (t : Text). has t after-round ≡ true) (item_texts i)) (old ++ q.0) new items in (
          each_all (λ i. Each (λ (t : Text). has t ts ≡ true) (item_texts i)) (λ i. Each (λ (t : Text). has t after-round ≡ true) (item_texts i))
              (λ i k. each_all (λ (t : Text). has t ts ≡ true) (λ (t : Text). has t after-round ≡ true) (λ t n. extends_has ts after-round t longer n) (item_texts i) k) G g,
          i,
          j,
          keys_next,
        )
