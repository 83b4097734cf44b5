-- What is known of names after a cell was written, or bytes off the records; and what stays where only cells are written. Assumes nothing.
use mathlib.Core.Path.{◌≡◌, refl, sym, ap, ◌∙◌}
use mathlib.Core.Bool.{Bool, true, false}
use mathlib.Core.Logic.{◌⊎◌, inl, inr}
use mathlib.Core.List.{List, [], ◌∷◌}
use Prim.Native.Nat.{ℕ, suc, ◌+◌, ◌*◌, ◌<◌, ◌≤◌}
use native.Mathlib.Omega.{arith}
use borrow.Author.Tests.{lt-leb, leb-false, leb-true, ltb-true, ltb-false, eqb-true, eqb-false}
use lib.Dec.{leb, ltb, eqb}
use lib.ListN.{length, get_or, set}
use lib.Seq.{sets, set-set, set_comm}
use Rattle.octets.specs.Working.Choice.{pick}
use Rattle.octets.specs.Plain.Numbers.{le, Bytes}
use Rattle.octets.specs.Plain.Runs.{Lies, part}
use Rattle.octets.specs.Working.Stores.{store}
use Rattle.octets.proofs.NumbersLaws.{length-le}
use Rattle.octets.proofs.LiesLaws.{lies_part, part_lies, lies_le, lies_to}
use Rattle.octets.proofs.StoreLaws.{length_store, le_at-other, le_at-same, get_d_store_before, get_d_store_after, lies_store}
use Rattle.texts.specs.declared.Map.{Map}
use Rattle.texts.specs.Fields.{cell_at}
use Rattle.texts.proofs.FieldsCode.{cell_other}
use Rattle.texts.proofs.TableStays.{part-agree}
use Rattle.laws.proofs.Patch.{store_same}
use Rattle.resolve.specs.Cells.{Room, known_at, define_at}
use Rattle.resolve.specs.Whole.{Apart}

-- ---- stores that share no byte may change places
set_past : (xs s : List ℕ) (at i v : ℕ) → (i < at) ⊎ (at + length xs ≤ i) → set (sets s at xs) i v ≡ sets (set s i v) at xs
set_past [] s at i v h = refl
set_past (x ∷ xs) s at i v (inl h) =
    set_past xs (set s at x) (suc at) i v (inl (omega arith)) ∙ ap (λ (l : List ℕ). sets l (suc at) xs) (set_comm s at i x v (λ e. absurd (omega (arith, e))))
set_past (x ∷ xs) s at i v (inr h) =
    set_past xs (set s at x) (suc at) i v (inr (omega arith)) ∙ ap (λ (l : List ℕ). sets l (suc at) xs) (set_comm s at i x v (λ e. absurd (omega (arith, e))))

sets_past : (ys xs s : List ℕ) (a b : ℕ) → (b + length ys ≤ a) ⊎ (a + length xs ≤ b) → sets (sets s a xs) b ys ≡ sets (sets s b ys) a xs
sets_past [] xs s a b h = refl
sets_past (y ∷ ys) xs s a b (inl h) =
    ap (λ (l : List ℕ). sets l (suc b) ys) (set_past xs s a b y (inl (omega arith))) ∙ sets_past ys xs (set s b y) a (suc b) (inl (omega arith))
sets_past (y ∷ ys) xs s a b (inr h) =
    ap (λ (l : List ℕ). sets l (suc b) ys) (set_past xs s a b y (inr (omega arith))) ∙ sets_past ys xs (set s b y) a (suc b) (inr (omega arith))

pub store-past : (s : List ℕ) (a b : ℕ) (xs ys : List ℕ) → (b + length ys ≤ a) ⊎ (a + length xs ≤ b) → store (store s a xs) b ys ≡ store (store s b ys) a xs
unfolding store
store-past s a b xs ys h = sets_past ys xs s a b h

-- of two stores at one place and of one length the second is left
sets_over : (xs ys s : List ℕ) (at : ℕ) → length xs ≡ length ys → sets (sets s at xs) at ys ≡ sets s at ys
sets_over [] [] s at h = refl
sets_over [] (y ∷ ys) s at h = absurd (omega arith)
sets_over (x ∷ xs) [] s at h = absurd (omega arith)
sets_over (x ∷ xs) (y ∷ ys) s at h =
    ap (λ (l : List ℕ). sets l (suc at) ys) (set_past xs (set s at x) (suc at) at y (inl (omega arith)) ∙ ap (λ (l : List ℕ). sets l (suc at) xs) (set-set s at x y))
    ∙ sets_over xs ys (set s at y) (suc at) (omega arith)

pub store-over : (s : List ℕ) (at : ℕ) (xs ys : List ℕ) → length xs ≡ length ys → store (store s at xs) at ys ≡ store s at ys
unfolding store
store-over s at xs ys h = sets_over xs ys s at h

-- a run lies where it lay, if its bytes are as they were
pub lies_agree : (w w' : List ℕ) (a e : ℕ) (xs : List ℕ) → length w' ≡ length w → e ≤ length w → ((i : ℕ) → a ≤ i → i < e → get_or w' i 0 ≡ get_or w i 0) → Lies w a xs e → Lies w' a xs e
lies_agree w w' a e xs n r f l =
    let z : part a e w' ≡ xs = part-agree w w' a e n r f ∙ lies_part w a e xs l in
    rw (← z) (part_lies w' a e (omega (arith, l.end)) (omega arith))

-- a part of a run is apart from what the run is apart from
pub part_apart : (a e c d b f : ℕ) → a ≤ b → f ≤ e → Apart a e c d → Apart b f c d
part_apart a e c d b f p q (inl h) = inl (omega arith)
part_apart a e c d b f p q (inr h) = inr (omega arith)

module _ (m : Map) where
  -- ---- a cell that is written
  abbrev cell_place : ℕ → ℕ
  cell_place k = m.base + 24 * k + 20

  pub define_is : (w : List ℕ) (k d : ℕ) → k < m.count → define_at m w k d ≡ store w (cell_place k) (le 4 d)
  unfolding define_at pick
  define_is w k d h = rw (lt-leb m.count k h) refl

  pub known_is : (w : List ℕ) (k : ℕ) → k < m.count → known_at m w k ≡ cell_at w m.base k
  unfolding known_at pick
  known_is w k h = rw (lt-leb m.count k h) refl

  pub known_none : (w : List ℕ) (k : ℕ) → m.count ≤ k → known_at m w k ≡ 0
  unfolding known_at pick
  known_none w k h = go (leb m.count k) refl
    where
      go : (b : Bool) → leb m.count k ≡ b → pick b 0 (cell_at w m.base k) ≡ 0
      go true e = refl
      go false e = absurd (let z = leb-false m.count k e in omega arith)

  pub length_define : (w : List ℕ) (k d : ℕ) → length (define_at m w k d) ≡ length w
  unfolding define_at pick
  length_define w k d = go (leb m.count k)
    where
      go : (b : Bool) → length (pick b w (store w (m.base + 24 * k + 20) (le 4 d))) ≡ length w
      go true = refl
      go false = length_store w _ _

  -- a byte that isn't of the cell
  define_other : (w : List ℕ) (k d i : ℕ) → (k < m.count → (i < m.base + 24 * k + 20) ⊎ (m.base + 24 * k + 24 ≤ i)) → get_or (define_at m w k d) i 0 ≡ get_or w i 0
  unfolding define_at pick
  define_other w k d i h = go (leb m.count k) refl
    where
      go : (b : Bool) → leb m.count k ≡ b → get_or (pick b w (store w (m.base + 24 * k + 20) (le 4 d))) i 0 ≡ get_or w i 0
      go true e = refl
      go false e =
          let z = leb-false m.count k e in
          elim (h (omega arith)) [ inl l ↦ get_d_store_before w _ (le 4 d) i (omega arith) | inr l ↦ get_d_store_after w _ (le 4 d) i (omega (arith, length-le 4 d)) ]

  beside : (k j : ℕ) → (k ≡ j → ⊥) → (i : ℕ) → m.base + 24 * k + 20 ≤ i → i < m.base + 24 * k + 24 → (i < m.base + 24 * j + 20) ⊎ (m.base + 24 * j + 24 ≤ i)
  beside k j n i a b = go (ltb k j) refl (ltb j k) refl
    where
      go : (s : Bool) → ltb k j ≡ s → (t : Bool) → ltb j k ≡ t → (i < m.base + 24 * j + 20) ⊎ (m.base + 24 * j + 24 ≤ i)
      go true e t f = let z = ltb-true k j e in inl (omega arith)
      go false e true f = let z = ltb-true j k f in inr (omega arith)
      go false e false f = let y = ltb-false k j e in let z = ltb-false j k f in absurd (n (omega arith))

  pub known_same : (w : List ℕ) → Room m (length w) → (k d : ℕ) → k < m.count → d < 4294967296 → known_at m (define_at m w k d) k ≡ d
  unfolding cell_at
  known_same w r k d h f = known_is (define_at m w k d) k h ∙ ap (λ (v : List ℕ). cell_at v m.base k) (define_is w k d h) ∙ le_at-same 4 w (cell_place k) d (omega arith) f

  pub known_other : (w : List ℕ) (k d j : ℕ) → (j ≡ k → ⊥) → known_at m (define_at m w k d) j ≡ known_at m w j
  unfolding known_at define_at pick
  known_other w k d j n = go (leb m.count k) (leb m.count j)
    where
      go : (b c : Bool) → pick c 0 (cell_at (pick b w (store w (m.base + 24 * k + 20) (le 4 d))) m.base j) ≡ pick c 0 (cell_at w m.base j)
      go true c = refl
      go false true = refl
      go false false = cell_other w (m.base + 24 * k + 20) (le 4 d) m.base k 20 refl (omega (arith, length-le 4 d)) j (λ e. absurd (n e))

  -- ---- bytes off the records
  pub known_off : (w : List ℕ) (at : ℕ) (vs : List ℕ) (j : ℕ) → Apart at (at + length vs) m.base (m.base + 24 * m.count) → known_at m (store w at vs) j ≡ known_at m w j
  unfolding known_at pick cell_at
  known_off w at vs j h = go (leb m.count j) refl
    where
      go : (b : Bool) → leb m.count j ≡ b → pick b 0 (cell_at (store w at vs) m.base j) ≡ pick b 0 (cell_at w m.base j)
      go true e = refl
      go false e =
          let z = leb-false m.count j e in
          le_at-other 4 w at vs (m.base + 24 * j + 20) (elim h [ inl l ↦ inr (omega arith) | inr l ↦ inl (omega arith) ])

  pub define_store : (w : List ℕ) (at : ℕ) (vs : List ℕ) (k d : ℕ) → Apart at (at + length vs) m.base (m.base + 24 * m.count) → define_at m (store w at vs) k d ≡ store (define_at m w k d) at vs
  unfolding define_at pick
  define_store w at vs k d h = go (leb m.count k) refl
    where
      go : (b : Bool) → leb m.count k ≡ b → pick b (store w at vs) (store (store w at vs) (m.base + 24 * k + 20) (le 4 d)) ≡ store (pick b w (store w (m.base + 24 * k + 20) (le 4 d))) at vs
      go true e = refl
      go false e =
          let z = leb-false m.count k e in
          store-past w at (m.base + 24 * k + 20) vs (le 4 d) (elim h [ inl l ↦ inr (omega arith) | inr l ↦ inl (omega (arith, length-le 4 d)) ])

  -- ---- two cells
  pub define_past : (w : List ℕ) (k d j c : ℕ) → (j ≡ k → ⊥) → define_at m (define_at m w k d) j c ≡ define_at m (define_at m w j c) k d
  unfolding define_at pick
  define_past w k d j c n = go (leb m.count k) (leb m.count j)
    where
      apart : (j < k) ⊎ (k < j) → (m.base + 24 * j + 20 + length (le 4 c) ≤ m.base + 24 * k + 20) ⊎ (m.base + 24 * k + 20 + length (le 4 d) ≤ m.base + 24 * j + 20)
      apart (inl h) = inl (omega (arith, length-le 4 c))
      apart (inr h) = inr (omega (arith, length-le 4 d))

      sides : (b : Bool) → leb j k ≡ b → (j < k) ⊎ (k < j)
      sides true e = let z = leb-true j k e in inl (less z)
        where
          less : j ≤ k → j < k
          less z = go' (leb k j) refl
            where
              go' : (b : Bool) → leb k j ≡ b → j < k
              go' true f = let y = leb-true k j f in absurd (n (omega arith))
              go' false f = let y = leb-false k j f in omega arith
      sides false e = let z = leb-false j k e in inr (omega arith)

      go : (a b : Bool) → pick b (pick a w (store w (m.base + 24 * k + 20) (le 4 d))) (store (pick a w (store w (m.base + 24 * k + 20) (le 4 d))) (m.base + 24 * j + 20) (le 4 c))
          ≡ pick a (pick b w (store w (m.base + 24 * j + 20) (le 4 c))) (store (pick b w (store w (m.base + 24 * j + 20) (le 4 c))) (m.base + 24 * k + 20) (le 4 d))
      go true true = refl
      go true false = refl
      go false true = refl
      go false false = store-past w (m.base + 24 * k + 20) (m.base + 24 * j + 20) (le 4 d) (le 4 c) (apart (sides (leb j k) refl))

  pub define_over : (w : List ℕ) (k d c : ℕ) → define_at m (define_at m w k d) k c ≡ define_at m w k c
  unfolding define_at pick
  define_over w k d c = go (leb m.count k)
    where
      go : (b : Bool) → pick b (pick b w (store w (m.base + 24 * k + 20) (le 4 d))) (store (pick b w (store w (m.base + 24 * k + 20) (le 4 d))) (m.base + 24 * k + 20) (le 4 c))
          ≡ pick b w (store w (m.base + 24 * k + 20) (le 4 c))
      go true = refl
      go false = store-over w (m.base + 24 * k + 20) (le 4 d) (le 4 c) (length-le 4 d ∙ sym (length-le 4 c))

  -- ---- each cell's bytes are those of its number
  abbrev pub Sound : List ℕ → Type 0
  Sound w = (k : ℕ) → k < m.count → Lies w (m.base + 24 * k + 20) (le 4 (known_at m w k)) (m.base + 24 * k + 24)

  pub bytes_sound : (w : List ℕ) → Bytes w → Room m (length w) → Sound w
  unfolding cell_at
  bytes_sound w b r k h =
      let z : cell_place k + 4 ≡ m.base + 24 * k + 24 = omega arith in
      rw (known_is w k h) (lies_to z (lies_le 4 w (cell_place k) b (omega arith)))

  pub define_sound : (w : List ℕ) → Room m (length w) → (j d : ℕ) → d < 4294967296 → Sound w → Sound (define_at m w j d)
  define_sound w r j d f s k h = go (eqb k j) refl
    where
      go : (b : Bool) → eqb k j ≡ b → Lies (define_at m w j d) (m.base + 24 * k + 20) (le 4 (known_at m (define_at m w j d) k)) (m.base + 24 * k + 24)
      go true e =
          let z = eqb-true k j e in
          let q = length-le 4 d in
          let y : cell_place k + length (le 4 d) ≡ m.base + 24 * k + 24 = omega arith in
          rw (← z, known_same w r k d h f, define_is w k d h) (lies_to y (lies_store w (cell_place k) (le 4 d) (omega arith)))
      go false e =
          let n = eqb-false k j e in
          rw (known_other w j d k n) (lies_agree w (define_at m w j d) (m.base + 24 * k + 20) (m.base + 24 * k + 24) (le 4 (known_at m w k)) (length_define w j d) (omega arith)
          (λ i a b. define_other w j d i (λ q. beside k j n i a b)) (s k h))

  pub store-sound : (w : List ℕ) (at : ℕ) (vs : List ℕ) → Room m (length w) → Apart at (at + length vs) m.base (m.base + 24 * m.count) → Sound w → Sound (store w at vs)
  store-sound w at vs r o s k h =
      rw (known_off w at vs k o) (lies_agree w (store w at vs) (m.base + 24 * k + 20) (m.base + 24 * k + 24) (le 4 (known_at m w k)) (length_store w at vs) (omega arith)
      (λ i a b. elim o [ inl l ↦ get_d_store_after w at vs i (omega arith) | inr l ↦ get_d_store_before w at vs i (omega arith) ]) (s k h))

  -- a cell written with what it holds
  pub define_known : (w : List ℕ) → Sound w → (k : ℕ) → k < m.count → define_at m w k (known_at m w k) ≡ w
  define_known w s k h = define_is w k (known_at m w k) h ∙ store_same w (cell_place k) (m.base + 24 * k + 24) (le 4 (known_at m w k)) (s k h)

  -- ---- nothing but cells is written
  abbrev pub Uncelled : ℕ → Type 0
  Uncelled i = (k : ℕ) → k < m.count → (i < m.base + 24 * k + 20) ⊎ (m.base + 24 * k + 24 ≤ i)

  pub record Cellwise (w w' : List ℕ) : Type 0 where
    pub long : length w' ≡ length w
    pub others : (i : ℕ) → Uncelled i → get_or w' i 0 ≡ get_or w i 0

  pub cellwise_same : (w : List ℕ) → Cellwise w w
  cellwise_same w = record { long = refl; others = λ i h. refl }

  pub cellwise_then : (u v w : List ℕ) → Cellwise u v → Cellwise v w → Cellwise u w
  cellwise_then u v w p q = record { long = q.long ∙ p.long; others = λ i h. q.others i h ∙ p.others i h }

  pub define_cellwise : (w : List ℕ) (k d : ℕ) → Cellwise w (define_at m w k d)
  define_cellwise w k d = record { long = length_define w k d; others = λ i h. define_other w k d i (h k) }

  -- so bytes off the records stay
  module _ (w w' : List ℕ) (c : Cellwise w w') where
    off_uncelled : (i : ℕ) → (i < m.base) ⊎ (m.base + 24 * m.count ≤ i) → Uncelled i
    off_uncelled i (inl h) k l = inl (omega arith)
    off_uncelled i (inr h) k l = inr (omega arith)

    pub off_same : (a e i : ℕ) → Apart a e m.base (m.base + 24 * m.count) → a ≤ i → i < e → get_or w' i 0 ≡ get_or w i 0
    off_same a e i (inl h) k l = c.others i (off_uncelled i (inl (omega arith)))
    off_same a e i (inr h) k l = c.others i (off_uncelled i (inr (omega arith)))

    pub off_lies : (a e : ℕ) (xs : List ℕ) → Apart a e m.base (m.base + 24 * m.count) → e ≤ length w → Lies w a xs e → Lies w' a xs e
    off_lies a e xs h r l = lies_agree w w' a e xs c.long r (λ i p q. off_same a e i h p q) l
