-- The hash and the bucket. Assumes nothing.
use mathlib.Core.Path.{◌≡◌, refl}
use mathlib.Core.List.{[], ◌∷◌}
use Prim.Native.Nat.{ℕ, ◌+◌, ◌*◌, ◌%◌, ◌<◌}
use native.Mathlib.Omega.{arith}
use native.Mathlib.Nat.{mul_comm, mul-lt-mul_of_pos_left, div-lt_iff_lt-mul}
use Rattle.std.specs.List.{fold}
use Rattle.std.proofs.lemmas.Nat.{mul-mod_first}
use Rattle.parse_tree.specs.Plain.Tree.{Text}
use Rattle.texts.specs.Hash.{hash_by, hash_step, hash_from, hash_of, bucket_of}

-- what wraps
pub step_wraps : (h b : ℕ) → (h + b) % 4294967296 * 2654435761 % 4294967296 ≡ hash_step h b
unfolding hash_step
step_wraps h b = mul-mod_first (h + b) 2654435761 4294967296

-- the hash goes on byte by byte
pub from_none : (h : ℕ) → hash_from h [] ≡ h
unfolding hash_from hash_by
from_none h = refl

pub from_more : (h b : ℕ) (t : Text) → hash_from h (b ∷ t) ≡ hash_from (hash_step h b) t
unfolding hash_from hash_by hash_step
from_more h b t = refl

-- it is a fold
pub fold_is : (h : ℕ) (t : Text) → fold hash_step h t ≡ hash_from h t
fold_is h [] = rw (from_none h) refl
fold_is h (b ∷ bs) = rw (from_more h b bs) (fold_is (hash_step h b) bs)

pub hash_folds : (t : Text) → fold hash_step 0 t ≡ hash_of t
unfolding hash_of
hash_folds t = fold_is 0 t

-- ---- `bucket`
module _ (h n : ℕ) where
  pub bucket_small : h < 4294967296 → 0 < n → bucket_of h n < n
  unfolding bucket_of
  bucket_small a b =
      let z : n * h < n * 4294967296 = mul-lt-mul_of_pos_left {m = h} {n = 4294967296} {k = n} a b in
      (div-lt_iff_lt-mul {k = 4294967296} {x = h * n} {y = n} (omega arith)).1 (rw (mul_comm h n) z)
