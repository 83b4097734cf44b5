-- Demand 3 over trees: the expanded tree derives what the written one means, and nothing is left to expand. Assumes nothing.
use mathlib.Core.Path.{◌≡◌}
use mathlib.Core.Logic.{◌↔◌}
use mathlib.Core.List.{List}
use Prim.Native.Nat.{ℕ}
use Rattle.parse_tree.specs.Plain.Tree.{Text}
use Rattle.passes.specs.Outcome.{Tree, yes}
use Rattle.meaning.specs.Phrases.{Token}
use Rattle.meaning.specs.Meaning.{Derives, DerivesExpanded}
use Rattle.passes.specs.Resolve.{resolve}
use Rattle.passes.specs.Levels.{levels}
use Rattle.meaning.specs.Premises.{HasItem, Flat}
use Rattle.meaning.proofs.Predicates.{Unresolved}
use Rattle.passes.proofs.Outcomes.{after-yes}
use Rattle.meaning.proofs.Levels.BeforeMacros.{Ready, ready}
use Rattle.meaning.proofs.Macros.Rounding.{expanded_derives, expanded_flat}
use Rattle.meaning.proofs.Macros.TreeRounds.{expand_tree, pass_tree}

-- a yes of the passes, taken apart: what macros got
record Expanded (U X : Tree) (limit : ℕ) : Type 0 where
  got : Tree
  ready : Ready U got
  macros-yes : expand_tree limit got ≡ yes X

expanded : (U X : Tree) (limit : ℕ) → Unresolved U → pass_tree limit U ≡ yes X → Expanded U X limit
unfolding pass_tree
expanded U X limit premises e =
    let (R, eR, e1) = after-yes (resolve U) _ X e in
    let (L, eL, e2) = after-yes (levels R) _ X e1 in
    let (G, eG, e3) = after-yes (resolve L) _ X e2 in
    record { got = G; ready = ready U R L G premises eR eL eG; macros-yes = e3 }

-- "the expanded tree derives the string from N exactly when G itself derives it from N"
pub derives : (U X : Tree) (limit : ℕ) → Unresolved U → pass_tree limit U ≡ yes X → (N : Text) → HasItem U N → (w : List Token) → DerivesExpanded X N w ↔ Derives U N w
derives U X limit premises e N h w =
    let x = expanded U X limit premises e in
    let a = expanded_derives x.got X limit x.ready.resolved x.macros-yes N (x.ready.items N h) w in
    let b = x.ready.derives N h w in
    (λ d. b.0 (a.0 d), λ d. a.1 (b.1 d))

-- no macro call, group, repeat or lookaround is left
pub flat : (U X : Tree) (limit : ℕ) → Unresolved U → pass_tree limit U ≡ yes X → Flat X
flat U X limit premises e = let x = expanded U X limit premises e in expanded_flat x.got X limit x.ready.resolved x.macros-yes
