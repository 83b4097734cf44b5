-- The call for all and the passes on trees: they agree on every yes and on every refusal but 20 and 21, which only the call has. Assumes nothing.
use mathlib.Core.Path.{◌≡◌, refl, sym, ap, ◌∙◌}
use mathlib.Core.Logic.{◌⊎◌, inl, inr}
use mathlib.Core.Bool.{Bool}
use mathlib.Core.List.{List}
use Prim.Native.Nat.{ℕ, ◌≤◌}
use native.Mathlib.Omega.{arith}
use Rattle.parse_tree.specs.Plain.Tree.{Stage}
use Rattle.parse_tree.specs.declared.syntax.Span.{Span}
use Rattle.passes.specs.Outcome.{Tree, Outcome, yes, no, after}
use Rattle.passes.specs.Stages.{all_stages}
use Rattle.passes.specs.Passes.{items_of, passes}
use Rattle.passes.specs.Calls.{nowhere, sizes, validate_call, whole}
use Rattle.passes.proofs.Outcomes.{no≢yes, yes_inj}
use Rattle.meaning.proofs.Macros.TreeRounds.{stages_tree, passes-tree}
use Rattle.meaning.proofs.Calls.Staged.{BySize, Agrees, agree_after, sizes-agree, stages_agree}

-- an outcome and its items have the same refusals
items_no : (r : Outcome Stage) (n : ℕ) (s : Span) → items_of r ≡ no n s → r ≡ no n s
items_no (yes g) n s e = absurd (no≢yes n s g.items (sym e))
items_no (no k p) n s e = cc

items_yes : (r : Outcome Stage) (X : Tree) → items_of r ≡ yes X → (g : Stage) × (r ≡ yes g) × (g.items ≡ X)
items_yes (yes g) X e = (g, refl, yes_inj g.items X e)
items_yes (no n s) X e = absurd (no≢yes n s X e)

items_sized : (r : Outcome Stage) → BySize (items_of r) → BySize r
items_sized r (inl e) = inl (items_no r 20 nowhere e)
items_sized r (inr e) = inr (items_no r 21 nowhere e)

-- theorem: where the tape is refused, with 1 to 4, the call for all is that refusal
pub unread_refused : (four : Bool) (w : ℕ) (tape : List ℕ) (limit cap work n : ℕ) (s : Span) → validate_call four w tape cap work ≡ no n s → whole four w tape limit cap work ≡ no n s
unfolding whole
unread_refused four w tape limit cap work n s e = ap (λ (x : Outcome Stage). after x (all_stages (sizes w cap) limit)) e

-- theorem: where its tree is u, the call's tree or refusal is that of the passes on u, or the call is refused with 20 or 21 at 0 0
pub whole_agrees : (four : Bool) (w : ℕ) (tape : List ℕ) (limit cap work : ℕ) (u : Stage) → validate_call four w tape cap work ≡ yes u
    → Agrees (items_of (whole four w tape limit cap work)) (passes limit u.items)
unfolding whole
whole_agrees four w tape limit cap work u e =
    let a = agree_after (all_stages (sizes w cap) limit u) (all_stages yes limit u) (λ g. yes g.items) (λ g. yes g.items) (stages_agree (sizes w cap) (sizes-agree w cap) limit u) (λ g. inl refl) in
    rw (e, passes-tree limit u.items, ← stages_tree limit u) a

-- so a yes of the call is one of the passes, with the same items
pub whole_passes : (four : Bool) (w : ℕ) (tape : List ℕ) (limit cap work : ℕ) (u : Stage) → validate_call four w tape cap work ≡ yes u → (g : Stage) → whole four w tape limit cap work ≡ yes g → passes limit u.items ≡ yes g.items
whole_passes four w tape limit cap work u reads g e = go (whole_agrees four w tape limit cap work u reads) (ap items_of e)
  where
    go : Agrees (items_of (whole four w tape limit cap work)) (passes limit u.items) → items_of (whole four w tape limit cap work) ≡ yes g.items → passes limit u.items ≡ yes g.items
    go (inl p) q = sym p ∙ q
    go (inr (inl p)) q = absurd (no≢yes 20 nowhere g.items (sym p ∙ q))
    go (inr (inr p)) q = absurd (no≢yes 21 nowhere g.items (sym p ∙ q))

-- theorem: a refusal of the call that is no size's is the passes', with the same place
pub whole_refuses : (four : Bool) (w : ℕ) (tape : List ℕ) (limit cap work : ℕ) (u : Stage) → validate_call four w tape cap work ≡ yes u → (n : ℕ) (s : Span) → n ≤ 19 → whole four w tape limit cap work ≡ no n s → passes limit u.items ≡ no n s
whole_refuses four w tape limit cap work u reads n s small e = go (whole_agrees four w tape limit cap work u reads) (ap items_of e)
  where
    other : (m : ℕ) → 20 ≤ m → ◌≡◌ {A = Outcome Tree} (no n s) (no m nowhere) → ⊥
    other m b q = let z : n ≡ m = cc in omega arith

    go : Agrees (items_of (whole four w tape limit cap work)) (passes limit u.items) → items_of (whole four w tape limit cap work) ≡ no n s → passes limit u.items ≡ no n s
    go (inl p) q = sym p ∙ q
    go (inr (inl p)) q = absurd (other 20 (omega arith) (sym q ∙ p))
    go (inr (inr p)) q = absurd (other 21 (omega arith) (sym q ∙ p))

-- theorem: a yes of the passes is one of the call, with the same items, unless a size is refused
pub passes-whole : (four : Bool) (w : ℕ) (tape : List ℕ) (limit cap work : ℕ) (u : Stage) → validate_call four w tape cap work ≡ yes u → (X : Tree) → passes limit u.items ≡ yes X
    → ((g : Stage) × (whole four w tape limit cap work ≡ yes g) × (g.items ≡ X)) ⊎ BySize (whole four w tape limit cap work)
passes-whole four w tape limit cap work u reads X e = go (whole_agrees four w tape limit cap work u reads)
  where
    go : Agrees (items_of (whole four w tape limit cap work)) (passes limit u.items) → ((g : Stage) × (whole four w tape limit cap work ≡ yes g) × (g.items ≡ X)) ⊎ BySize (whole four w tape limit cap work)
    go (inl p) = inl (items_yes (whole four w tape limit cap work) X (p ∙ e))
    go (inr b) = inr (items_sized (whole four w tape limit cap work) b)

-- theorem: a refusal of the passes is the call's, with the same place, unless a size is refused before
pub passes-refuse : (four : Bool) (w : ℕ) (tape : List ℕ) (limit cap work : ℕ) (u : Stage) → validate_call four w tape cap work ≡ yes u → (n : ℕ) (s : Span) → passes limit u.items ≡ no n s → (whole four w tape limit cap work ≡ no n s) ⊎ BySize (whole four w tape limit cap work)
passes-refuse four w tape limit cap work u reads n s e = go (whole_agrees four w tape limit cap work u reads)
  where
    go : Agrees (items_of (whole four w tape limit cap work)) (passes limit u.items) → (whole four w tape limit cap work ≡ no n s) ⊎ BySize (whole four w tape limit cap work)
    go (inl p) = inl (items_no (whole four w tape limit cap work) n s (p ∙ e))
    go (inr b) = inr (items_sized (whole four w tape limit cap work) b)
