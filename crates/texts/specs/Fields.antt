-- The fields of the records that stand from b on, and the chains of their buckets. Assumes nothing: these are definitions.
use Rattle.std.specs.Prelude.{◌≡◌, ℕ, zero, suc, ◌+◌, ◌*◌, ◌%◌, ◌≤◌, ◌<◌, List, eqb, length, get_or}
use Rattle.octets.specs.Working.Choice.{pick}
use Rattle.octets.specs.Plain.Numbers.{le_at}
use Rattle.texts.specs.Hash.{bucket_of}

unfoldable pub mark_at : List ℕ → ℕ → ℕ → ℕ
mark_at w b k = le_at 8 w (b + 24 * k)

unfoldable pub class_at : List ℕ → ℕ → ℕ → ℕ
class_at w b k = mark_at w b k % 4

unfoldable pub hash_at : List ℕ → ℕ → ℕ → ℕ
hash_at w b k = le_at 4 w (b + 24 * k + 8)

unfoldable pub link_at : List ℕ → ℕ → ℕ → ℕ
link_at w b k = le_at 4 w (b + 24 * k + 12)

unfoldable pub head_at : List ℕ → ℕ → ℕ → ℕ
head_at w b k = le_at 4 w (b + 24 * k + 16)

unfoldable pub cell_at : List ℕ → ℕ → ℕ → ℕ
cell_at w b k = le_at 4 w (b + 24 * k + 20)

-- the bucket of the i-th record among n
unfoldable pub bucket_at : List ℕ → ℕ → ℕ → ℕ → ℕ
bucket_at w b n i = bucket_of (hash_at w b i) n

-- the last of the first k whose bucket is y, and one; 0 for none
unfoldable pub last : (ℕ → ℕ) → ℕ → ℕ → ℕ
last f y zero = 0
last f y (suc k) = pick (eqb (f k) y) (suc k) (last f y k)

-- the first k records are in the chains of n buckets, and no other is
pub record Chained (w : List ℕ) (b n k : ℕ) : Type 0 where
  pub links : (i : ℕ) → i < k → link_at w b i ≡ last (bucket_at w b n) (bucket_at w b n i) i
  pub heads : (y : ℕ) → y < n → head_at w b y ≡ last (bucket_at w b n) y k

-- from w to w' nothing changed but links of the first k records and n heads
pub record RecordsKept (w w' : List ℕ) (b k n : ℕ) : Type 0 where
  pub long : length w' ≡ length w
  pub marks : (i : ℕ) → mark_at w' b i ≡ mark_at w b i
  pub hashes : (i : ℕ) → hash_at w' b i ≡ hash_at w b i
  pub cells : (i : ℕ) → cell_at w' b i ≡ cell_at w b i
  pub before : (i : ℕ) → i < b → get_or w' i 0 ≡ get_or w i 0
  pub after : (i : ℕ) → b + 24 * k ≤ i → b + 24 * n ≤ i → get_or w' i 0 ≡ get_or w i 0

-- what `relink` asks: the first k are in the chains, and those up to e are written
pub record Relinking (w : List ℕ) (b n k e : ℕ) : Type 0 where
  pub chained : Chained w b n k
  pub upto : k ≤ e
  pub few : e ≤ 4294967295
  pub narrow : n ≤ 4294967295
  pub room : b + 24 * e ≤ length w
  pub wide : b + 24 * n ≤ length w
  pub some : k < e → 0 < n

-- and the first k are in the chains
pub record Relinked (w w' : List ℕ) (b k n : ℕ) : Type 0 where
  pub kept : RecordsKept w w' b k n
  pub chained : Chained w' b n k

-- what `put_in_bucket` does: the k-th record comes before the others of bucket y
pub record Linked (w : List ℕ) (b n k y : ℕ) (w' : List ℕ) : Type 0 where
  pub kept : RecordsKept w w' b (k + 1) n
  pub link : link_at w' b k ≡ head_at w b y
  pub links : (i : ℕ) → (i ≡ k → ⊥) → link_at w' b i ≡ link_at w b i
  pub head : head_at w' b y ≡ k + 1
  pub heads : (i : ℕ) → (i ≡ y → ⊥) → head_at w' b i ≡ head_at w b i

-- what `write` does: the k-th record but for its link and its head
pub record RecordWritten (w : List ℕ) (b k x h c : ℕ) (w' : List ℕ) : Type 0 where
  pub long : length w' ≡ length w
  pub mark : mark_at w' b k ≡ x
  pub hash : hash_at w' b k ≡ h
  pub cell : cell_at w' b k ≡ c
  pub marks : (i : ℕ) → (i ≡ k → ⊥) → mark_at w' b i ≡ mark_at w b i
  pub hashes : (i : ℕ) → (i ≡ k → ⊥) → hash_at w' b i ≡ hash_at w b i
  pub cells : (i : ℕ) → (i ≡ k → ⊥) → cell_at w' b i ≡ cell_at w b i
  pub links : (i : ℕ) → link_at w' b i ≡ link_at w b i
  pub heads : (i : ℕ) → head_at w' b i ≡ head_at w b i
  pub before : (i : ℕ) → i < b + 24 * k → get_or w' i 0 ≡ get_or w i 0
  pub after : (i : ℕ) → b + 24 * k + 24 ≤ i → get_or w' i 0 ≡ get_or w i 0
