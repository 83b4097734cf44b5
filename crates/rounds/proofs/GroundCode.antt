-- The ways out of the functions that make a round's ground. Assumes nothing.
use mathlib.Core.Path.{◌≡◌, refl, sym, ap, ◌∙◌, subst}
use mathlib.Core.Bool.{Bool, true, false}
use mathlib.Core.Logic.{◌⊎◌, inl, inr}
use mathlib.Core.List.{List}
use Prim.Native.Nat.{ℕ, zero, suc, ◌+◌, ◌-◌, ◌*◌, ◌/◌, ◌≤◌, ◌<◌, min}
use native.Mathlib.Omega.{arith}
use borrow.Author.Rules.{rules}
use borrow.Author.Tests.{ltb-true, ltb-false, eqb-true, eqb-false}
use lib.Dec.{eqb, ltb}
use lib.ListN.{length, get_or, replicate, take, drop}
use Rattle.std.proofs.lemmas.List.{length-replicate}
use Rattle.octets.specs.declared.numbers.Width.{Width}
use Rattle.octets.specs.Working.Choice.{pick}
use Rattle.octets.specs.Plain.Numbers.{le_at}
use Rattle.octets.specs.Plain.Runs.{part, Lies}
use Rattle.octets.specs.Working.Stores.{store}
use Rattle.octets.proofs.LiesLaws.{lies_first}
use Rattle.octets.proofs.PartLaws.{part_length}
use Rattle.octets.proofs.StoreLaws.{length_store, get_d_store_before, get_d_store_after, lies_store}
use Rattle.parse_tree.specs.Plain.Texts.{distinct}
use Rattle.texts.specs.declared.Map.{Map}
use Rattle.texts.specs.Fields.{Relinked}
use Rattle.texts.specs.Table.{Stays}
use Rattle.texts.proofs.TableStays.{stays, above_stays}
use Rattle.expander.specs.Ground.{size_in, top_of}
use Rattle.rounds.specs.Start.{Cleared}
use Rattle.rounds.specs.Grounds.{buckets_of, Groundable, Grounds}

-- ---- bucket_count
pub buckets_least : (size n : ℕ) → n ≡ min (size / 64 + 1) 4294967295 → n ≡ buckets_of size
unfolding buckets_of pick
buckets_least size n e = go (ltb (size / 64 + 1) 4294967295) refl
  where
    go : (b : Bool) → ltb (size / 64 + 1) 4294967295 ≡ b → n ≡ pick b (size / 64 + 1) 4294967295
    go true h = omega (arith, e, ltb-true (size / 64 + 1) 4294967295 h)
    go false h = omega (arith, e, ltb-false (size / 64 + 1) 4294967295 h)

pub ruleset bucketing = (rules, buckets_least)

buckets_some : (size : ℕ) → 9 ≤ size → (0 < buckets_of size) × (buckets_of size ≤ size / 9) × (buckets_of size ≤ 4294967295)
unfolding buckets_of pick
buckets_some size h = go (ltb (size / 64 + 1) 4294967295) refl
  where
    go : (b : Bool) → ltb (size / 64 + 1) 4294967295 ≡ b → (0 < pick b (size / 64 + 1) 4294967295) × (pick b (size / 64 + 1) 4294967295 ≤ size / 9) × (pick b (size / 64 + 1) 4294967295 ≤ 4294967295)
    go true e = let z = ltb-true (size / 64 + 1) 4294967295 e in (omega arith, omega arith, omega arith)
    go false e = let z = ltb-false (size / 64 + 1) 4294967295 e in (omega arith, omega arith, omega arith)

-- ---- ground
module _ (s w : List ℕ) (m : Map) (width : Width) (from end top : ℕ) (h : Groundable s w m width.bytes from end top) where
  abbrev k : ℕ
  k = (end - from) / 9

  pub slots_below : 8 * ((end - from) / 9) ≤ top
  slots_below = omega (arith, h.room)

  pub keys_below : 24 * ((end - from) / 9) ≤ top - 8 * ((end - from) / 9)
  keys_below = omega (arith, h.room)

  module _ (b : ℕ) (e : b ≡ buckets_of (end - from)) where
    few : (0 < b) × (b ≤ (end - from) / 9) × (b ≤ 4294967295)
    few = rw e (buckets_some (end - from) h.long)

    pub heads-room : top - 8 * ((end - from) / 9) - 24 * ((end - from) / 9) + 24 * b ≤ length w
    heads-room = omega (arith, few.1, h.room, h.top_inside)

    pub grounds : (w' : List ℕ) → Relinked w w' (top - 8 * ((end - from) / 9) - 24 * ((end - from) / 9)) 0 b
        → Grounds s w m width.bytes from end top (record { m = m; width = width; from = from; end = end; keys = top - 8 * ((end - from) / 9) - 24 * ((end - from) / 9); buckets = b; slots = top - 8 * ((end - from) / 9) }) w'
    unfolding size_in top_of
    grounds w' r =
        let K = top - 8 * k - 24 * k in
        let S : Stays s w m w' m =
        let n = h.narrower in
        stays s w w' m top h.table h.above r.kept.long
        (record { agree = λ i x y. r.kept.after i (omega (arith, h.room)) (omega (arith, few.1, h.room)) })
        (record { agree = λ i x y. r.kept.before i (omega (arith, h.room)) })
        (record { agree = λ i x y. r.kept.before i (omega (arith, h.room)) }) in
        let o : top - 8 * k + 8 * k ≡ top = omega (arith, h.room) in
        record {
          map = refl;
          width_is = refl;
          from_is = refl;
          end_is = refl;
          slots = refl;
          keys = refl;
          buckets = e;
          ground = record {
            table = S.table;
            some = h.some;
            distinct-texts = ap distinct S.same ∙ h.apart;
            narrow = h.narrow;
            wide = h.wide;
            ordered = h.ordered;
            inside = rw r.kept.long h.inside;
            records = omega (arith, h.room);
            heads = omega (arith, h.room, h.narrower);
            narrower = h.narrower;
            above = rw o (above_stays s w m w' m top S h.above);
            off = rw o h.off;
            fits = omega (arith, h.room);
            top = rw (o, r.kept.long) h.top_inside;
            filled = few.0;
            few = few.1;
            linkable = few.2;
            short = rw r.kept.long h.short;
          };
          empty = r.chained;
          long = r.kept.long;
          others = go r;
        }
      where
        go : Relinked w w' (top - 8 * k - 24 * k) 0 b → (i : ℕ) → (i < top - 8 * k - 24 * k) ⊎ (top - 8 * k ≤ i) → get_or w' i 0 ≡ get_or w i 0
        go r i (inl x) = r.kept.before i x
        go r i (inr x) = r.kept.after i (omega (arith, h.room)) (omega (arith, few.1, h.room))

pub ruleset grounding = (rules, slots_below, keys_below, heads-room, grounds)

-- ---- clear_built: nine words are 72 bytes
abbrev zeros : ℕ → List ℕ
zeros n = replicate n 0

zeros-long : (n : ℕ) → length (zeros n) ≡ n
zeros-long n = length-replicate {A = ℕ} n 0

zeros_lie : (n : ℕ) (s : List ℕ) (a e : ℕ) → Lies s a (zeros n) e → (i : ℕ) → a ≤ i → i < a + n → get_or s i 0 ≡ 0
zeros_lie zero s a e l i b c = absurd (omega (arith, b, c))
zeros_lie (suc n) s a e l i b c = let h = lies_first s a 0 (zeros n) e l in go (eqb i a) refl (λ x y. zeros_lie n s (a + 1) e h.2 i x y)
  where
    go : (t : Bool) → eqb i a ≡ t → (a + 1 ≤ i → i < a + 1 + n → get_or s i 0 ≡ 0) → get_or s i 0 ≡ 0
    go true q k = let z = eqb-true i a q in ap (λ (j : ℕ). get_or s j 0) z ∙ (lies_first s a 0 (zeros n) e l).1
    go false q k = let z = eqb-false i a q in k (omega (arith, z, b)) (omega (arith, c))

zeros_read : (k : ℕ) (s : List ℕ) (at : ℕ) → ((i : ℕ) → at ≤ i → i < at + k → get_or s i 0 ≡ 0) → le_at k s at ≡ 0
unfolding le_at
zeros_read zero s at h = refl
zeros_read (suc k) s at h = omega (arith, h at (omega arith) (omega arith), zeros_read k s (at + 1) (λ i a b. h i (omega arith) (omega arith)))

module _ (slots : ℕ) (w : List ℕ) (low : 72 ≤ slots) (top : slots ≤ length w) where
  pub filled : (x : List ℕ) → x ≡ replicate (length (take (slots - (slots - 72)) (drop (slots - 72) w))) 0 → x ≡ zeros 72
  unfolding part
  filled x e =
      let z : length (part (slots - 72) slots w) ≡ 72 = omega (arith, part_length (slots - 72) slots w top, low) in
      e ∙ ap zeros z

module _ (slots : ℕ) (w w' : List ℕ) (low : 72 ≤ slots) (top : slots ≤ length w) (e : w' ≡ store w (slots - 72) (zeros 72)) where
  zeros_there : Lies w' (slots - 72) (zeros 72) (slots - 72 + length (zeros 72))
  zeros_there = subst (λ (x : List ℕ). Lies x (slots - 72) (zeros 72) (slots - 72 + length (zeros 72))) (sym e) (lies_store w (slots - 72) (zeros 72) (omega (arith, zeros-long 72)))

  pub cleared_lem : Cleared slots w w'
  cleared_lem = record {
    long = ap length e ∙ length_store w (slots - 72) (zeros 72);
    words = λ i l. zeros_read 8 w' (slots - 72 + 8 * i) (λ j a b. zeros_lie 72 w' (slots - 72) (slots - 72 + length (zeros 72)) zeros_there j (omega arith) (omega arith));
    others = beside;
  }
    where
      beside : (j : ℕ) → (j < slots - 72) ⊎ (slots ≤ j) → get_or w' j 0 ≡ get_or w j 0
      beside j (inl x) = ap (λ (z : List ℕ). get_or z j 0) e ∙ get_d_store_before w (slots - 72) (zeros 72) j x
      beside j (inr x) = ap (λ (z : List ℕ). get_or z j 0) e ∙ get_d_store_after w (slots - 72) (zeros 72) j (omega (arith, zeros-long 72, low, x))
