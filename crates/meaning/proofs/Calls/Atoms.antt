-- A stage's atoms: they keep the former stage's, hold every text that the items refer to, and no two are equal. Assumes nothing.
use mathlib.Core.Path.{◌≡◌, refl, subst}
use mathlib.Core.Bool.{Bool, true, false}
use mathlib.Core.List.{List, [], ◌∷◌, ◌++◌}
use Prim.Native.Nat.{ℕ, zero, suc}
use Rattle.parse_tree.specs.Plain.Tree.{Text, Item, Stage}
use Rattle.parse_tree.specs.Plain.Texts.{has, distinct, with_new}
use Rattle.parse_tree.specs.Plain.References.{texts_of_each, item_texts, stage_of}
use Rattle.parse_tree.proofs.TextLaws.{distinct_more}
use Rattle.passes.specs.Outcome.{Tree, Outcome, yes, after}
use Rattle.passes.proofs.Outcomes.{no≢yes, after-yes}
use Rattle.passes.specs.Macros.{Pending, MacroExpander, replace_items, drain}
use Rattle.passes.specs.Sizes.{stage_fits}
use Rattle.passes.specs.Stages.{last_stage, or_more, stage, rounds}
use Rattle.passes.specs.Calls.{sizes}
use Rattle.parse_tree.proofs.AmongLaws.{has_here, has-before, has-behind}
use Rattle.parse_tree.proofs.NothingNew.{There}
use Rattle.meaning.proofs.Calls.Staged.{admitted}

-- ---- the new ones of xs behind ts
pub with_new_keeps : (x : Text) (ts xs : List Text) → has x ts ≡ true → has x (with_new ts xs) ≡ true
unfolding with_new
with_new_keeps x ts [] h = h
with_new_keeps x ts (y ∷ ys) h = go (has y ts) (with_new_keeps x ts ys h) (with_new_keeps x (ts ++ (y ∷ [])) ys (has-before x ts (y ∷ []) h))
  where
    go : (b : Bool) → has x (with_new ts ys) ≡ true → has x (with_new (ts ++ (y ∷ [])) ys) ≡ true → has x (elim b [ true ↦ with_new ts ys | false ↦ with_new (ts ++ (y ∷ [])) ys ]) ≡ true
    go true k l = k
    go false k l = l

pub with_new_holds : (ts xs : List Text) → There (with_new ts xs) xs
unfolding with_new
with_new_holds ts [] = tt
with_new_holds ts (y ∷ ys) = go (has y ts) refl (with_new_holds ts ys) (with_new_holds (ts ++ (y ∷ [])) ys)
  where
    go : (b : Bool) → has y ts ≡ b → There (with_new ts ys) ys → There (with_new (ts ++ (y ∷ [])) ys) ys
        → There (elim b [ true ↦ with_new ts ys | false ↦ with_new (ts ++ (y ∷ [])) ys ]) (y ∷ ys)
    go true e k l = (with_new_keeps y ts ys e, k)
    go false e k l = (with_new_keeps y (ts ++ (y ∷ [])) ys (has-behind y ts (y ∷ []) (has_here y [])), l)

pub with_new_distinct : (ts xs : List Text) → distinct ts ≡ true → distinct (with_new ts xs) ≡ true
unfolding with_new
with_new_distinct ts [] d = d
with_new_distinct ts (y ∷ ys) d = go (has y ts) refl (with_new_distinct ts ys d) (with_new_distinct (ts ++ (y ∷ [])) ys)
  where
    go : (b : Bool) → has y ts ≡ b → distinct (with_new ts ys) ≡ true → (distinct (ts ++ (y ∷ [])) ≡ true → distinct (with_new (ts ++ (y ∷ [])) ys) ≡ true)
        → distinct (elim b [ true ↦ with_new ts ys | false ↦ with_new (ts ++ (y ∷ [])) ys ]) ≡ true
    go true e k f = k
    go false e k f = f (distinct_more ts y d e)

-- ---- stages
pub record Stocked (w : ℕ) (g : Stage) : Type 0 where
  pub apart : distinct g.atoms ≡ true
  pub there : There g.atoms (texts_of_each item_texts g.items)
  pub fits : stage_fits w g ≡ true

pub stage_there : (ts : List Text) (items : List Item) → There (stage_of ts items).atoms (texts_of_each item_texts items)
unfolding stage_of
stage_there ts items = with_new_holds ts (texts_of_each item_texts items)

-- an admitted stage behind atoms that are distinct
pub stage_stocked : (w cap : ℕ) (ts : List Text) (items : List Item) (g : Stage) → distinct ts ≡ true → stage (sizes w cap) ts items ≡ yes g → Stocked w g
unfolding stage_of
stage_stocked w cap ts items g d e =
    let a = admitted w cap (stage_of ts items) g e in
    subst (Stocked w) a.same (record { apart = with_new_distinct ts (texts_of_each item_texts items) d; there = stage_there ts items; fits = a.fits })

-- so is the last stage of the rounds
pub rounds_stocked : (w cap : ℕ) (G : Tree) (limit : ℕ) (ts : List Text) (old fresh : List Item) (keys : List Text) (g : Stage)
    → distinct ts ≡ true → rounds (sizes w cap) G limit ts old fresh keys ≡ yes g → Stocked w g
unfolding rounds
rounds_stocked w cap G zero ts old fresh keys g d e =
    let q = replace_items fresh (record { keys = keys; pile = [] }) in go (old ++ q.0) q.1.pile e
  where
    go : (items : List Item) (pile : List Pending) → last_stage pile (stage (sizes w cap) ts items) ≡ yes g → Stocked w g
    go items [] z = stage_stocked w cap ts items g d z
    go items (x ∷ xs) z = absurd (no≢yes 18 _ g z)
rounds_stocked w cap G (suc limit) ts old fresh keys g d e =
    let q = replace_items fresh (record { keys = keys; pile = [] }) in
    go q q.1.pile (λ us new ks du z. rounds_stocked w cap G limit us (old ++ q.0) new ks g du z) e
  where
    more : (q : List Item × MacroExpander) → Outcome Stage
    more q =
        after (stage (sizes w cap) ts (old ++ q.0)) (λ r. after (drain G q.1.pile) (λ new.
        after (stage (sizes w cap) r.atoms (old ++ q.0 ++ new)) (λ k. rounds (sizes w cap) G limit k.atoms (old ++ q.0) new q.1.keys)))

    go : (q : List Item × MacroExpander) (pile : List Pending)
        → ((us : List Text) (new : List Item) (ks : List Text) → distinct us ≡ true → rounds (sizes w cap) G limit us (old ++ q.0) new ks ≡ yes g → Stocked w g)
        → or_more pile (stage (sizes w cap) ts (old ++ q.0)) (more q) ≡ yes g → Stocked w g
    go q [] ih z = stage_stocked w cap ts (old ++ q.0) g d z
    go q (x ∷ xs) ih z =
        let (r, er, z1) = after-yes (stage (sizes w cap) ts (old ++ q.0)) _ g z in
        let (new, en, z2) = after-yes (drain G q.1.pile) _ g z1 in
        let (k, ek, z3) = after-yes (stage (sizes w cap) r.atoms (old ++ q.0 ++ new)) _ g z2 in
        let dr = (stage_stocked w cap ts (old ++ q.0) r d er).apart in
        ih k.atoms new q.1.keys (stage_stocked w cap r.atoms (old ++ q.0 ++ new) k dr ek).apart z3
