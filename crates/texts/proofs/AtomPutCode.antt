-- `put_atom`: a code, a length and bytes, one behind another. Assumes nothing.
use mathlib.Core.Path.{◌≡◌, refl, ap, ◌∙◌}
use mathlib.Core.List.{List, [], ◌∷◌, ◌++◌}
use Prim.Native.Nat.{ℕ, ◌+◌, ◌-◌}
use native.Mathlib.Omega.{arith}
use borrow.Author.Rules.{rules}
use lib.ListN.{length, set}
use lib.Seq.{take_all}
use Rattle.octets.specs.Plain.Numbers.{le}
use Rattle.octets.specs.Plain.Runs.{part}
use Rattle.octets.specs.Working.Stores.{store}
use Rattle.octets.proofs.NumbersLaws.{length-le}
use Rattle.octets.proofs.StoreLaws.{store-append}
use Rattle.parse_tree.specs.Plain.Tree.{Text}

module _ (o : List ℕ) (to : ℕ) where
  code_stored : set o to 1 ≡ store o to (1 ∷ [])
  unfolding store
  code_stored = refl

  pub head_put : (n : ℕ) (a : List ℕ) → a ≡ store (set o to 1) (to + 1) (le 2 n) → a ≡ store o to (1 ∷ le 2 n)
  head_put n a f = f ∙ ap (λ (l : List ℕ). store l (to + 1) (le 2 n)) code_stored ∙ store-append o to (to + 1) (1 ∷ []) (le 2 n) refl

  pub atom_put : (n : ℕ) (t : Text) (a b : List ℕ) → a ≡ store o to (1 ∷ le 2 n) → b ≡ store a (to + 3) (part 0 (length t) t) → b ≡ store o to ((1 ∷ le 2 n) ++ t)
  unfolding part
  atom_put n t a b f g =
      g ∙ ap (store a (to + 3)) (take_all (length t - 0) t (omega arith)) ∙ ap (λ (l : List ℕ). store l (to + 3) t) f ∙ store-append o to (to + 3) (1 ∷ le 2 n) t (omega (arith, length-le 2 n))

pub ruleset putting_atom = (rules, head_put, atom_put)
