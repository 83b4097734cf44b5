-- Hashes compose: hash (xs ++ ys) = hash xs * power ys + hash ys. Assumes nothing.
use mathlib.Core.Path.{◌≡◌, refl}
use mathlib.Core.List.{[], ◌∷◌, ◌++◌}
use Prim.Native.Nat.{ℕ, ◌+◌, ◌*◌, ◌%◌}
use lib.ListN.{length}
use Rattle.parse_tree.specs.Plain.Tree.{Text}
use Rattle.texts.specs.Hash.{hash_by, hash_step, hash_from, hash_of, power}
use Rattle.texts.proofs.FormLaws.{hash_append, power-add}

-- theorem: the hash composes
pub hash_join : (xs ys : Text) → hash_of (xs ++ ys) ≡ (hash_of xs * power (length ys) + hash_of ys) % 4294967296
unfolding hash_of hash_from power
hash_join xs ys = hash_append 2654435761 xs ys

-- theorem: and so do powers
pub power-join : (n k : ℕ) → power (n + k) ≡ power n * power k % 4294967296
unfolding power
power-join n k = power-add 2654435761 n k

append_from : (h : ℕ) (xs ys : Text) → hash_by 2654435761 h (xs ++ ys) ≡ hash_by 2654435761 (hash_by 2654435761 h xs) ys
unfolding hash_by
append_from h [] ys = refl
append_from h (x ∷ xs) ys = append_from ((h + x) * 2654435761 % 4294967296) xs ys

-- theorem: and with a byte more
pub hash_snoc : (xs : Text) (b : ℕ) → hash_of (xs ++ (b ∷ [])) ≡ hash_step (hash_of xs) b
unfolding hash_of hash_from hash_by hash_step
hash_snoc xs b = append_from 0 xs (b ∷ [])
