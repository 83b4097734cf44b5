-- The hash of a text, and its bucket. Assumes nothing: these are definitions.
use Rattle.std.specs.Prelude.{ℕ, zero, suc, ◌+◌, ◌*◌, ◌/◌, ◌%◌, [], ◌∷◌}
use Rattle.parse_tree.specs.Plain.Tree.{Text}

-- B is the multiplier
module _ (B : ℕ) where
  -- the hash of a text behind bytes with the hash h
  unfoldable pub hash_by : ℕ → Text → ℕ
  hash_by h [] = h
  hash_by h (b ∷ bs) = hash_by ((h + b) * B % 4294967296) bs

  -- what n bytes more multiply a hash by
  unfoldable pub power_by : ℕ → ℕ
  power_by zero = 1
  power_by (suc n) = power_by n * B % 4294967296

-- ---- with the multiplier of the table

-- with a byte more
unfoldable pub hash_step : ℕ → ℕ → ℕ
hash_step h b = (h + b) * 2654435761 % 4294967296

unfoldable pub hash_from : ℕ → Text → ℕ
hash_from h t = hash_by 2654435761 h t

unfoldable pub hash_of : Text → ℕ
hash_of t = hash_from 0 t

unfoldable pub power : ℕ → ℕ
power n = power_by 2654435761 n

-- which of n buckets a hash falls into
unfoldable pub bucket_of : ℕ → ℕ → ℕ
bucket_of h n = h * n / 4294967296
