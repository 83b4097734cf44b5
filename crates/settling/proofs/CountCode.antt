-- The ways out of count_texts. Assumes nothing.
use mathlib.Core.Path.{◌≡◌, refl, sym, ap, ◌∙◌}
use mathlib.Core.Bool.{Bool, true, false, cond}
use mathlib.Core.List.{List}
use Prim.Native.Nat.{ℕ, ◌+◌, ◌-◌, ◌*◌, ◌<◌, ◌≤◌}
use native.Mathlib.Omega.{arith}
use mir.Syntax.{w64}
use mir.Val.{Fits}
use borrow.Author.Rules.{rules}
use borrow.Author.Tests.{ltb-true, ltb-false}
use lib.Dec.{ltb}
use lib.ListN.{length}
use Rattle.std.specs.Prelude.{Some, None}
use Rattle.octets.proofs.ChoiceLaws.{by_pick}
use Rattle.parse_tree.specs.Plain.Tree.{Text}
use Rattle.parse_tree.specs.Plain.WriteTape.{bytes_of_each}
use Rattle.texts.specs.Atoms.{some_long}
use Rattle.texts.proofs.AtomsLaws.{long_no}
use Rattle.texts.specs.Forms.{stop}
use Rattle.expander.specs.declared.Ground.{Ground}
use Rattle.expander.specs.Ground.{list_place, list_at, Grounded}
use Rattle.expander.specs.Names.{described_by, listed_texts}
use Rattle.expander.proofs.GroundLaws.{keys_slots, slots_top}
use Rattle.settling.specs.One.{Entry}
use Rattle.settling.specs.Settle.{new_bytes, SomeNew, Counts}
use Rattle.settling.proofs.OneCode.{stop-less, stop-full}
use Rattle.settling.proofs.NewLaws.{new_more, size_next, each-short, names_entry}

-- ---- a length that is stopped
stop-most : (n : ℕ) → stop n ≤ 65536
unfolding stop
stop-most n = by_pick (λ r. r ≤ 65536) (ltb n 65536) (λ e. go e) (λ _. omega arith)
  where
    go : ltb n 65536 ≡ true → n ≤ 65536
    go e = omega (arith, ltb-true n 65536 e)

stop-long : (n : ℕ) → 65535 < stop n → 65535 < n
stop-long n h = go (ltb n 65536) refl
  where
    go : (b : Bool) → ltb n 65536 ≡ b → 65535 < n
    go true e = omega (arith, stop-less n (ltb-true n 65536 e))
    go false e = omega (arith, ltb-false n 65536 e)

stop-short : (n : ℕ) → stop n ≤ 65535 → stop n ≡ n
stop-short n h = go (ltb n 65536) refl
  where
    go : (b : Bool) → ltb n 65536 ≡ b → stop n ≡ n
    go true e = stop-less n (ltb-true n 65536 e)
    go false e = absurd (omega (arith, stop-full n (ltb-false n 65536 e)))

-- ---- the texts before the i-th are counted
pub record Counting (s w : List ℕ) (g : Ground) (n c i bytes : ℕ) : Type 0 where
  pub upto : i ≤ c
  pub short : some_long (listed_texts s w g i) ≡ false
  pub size : bytes ≡ length (new_bytes s w g i)
  pub small : bytes ≤ 65539 * i

pub count-start : (s w : List ℕ) (g : Ground) (n c : ℕ) → SomeNew s w g n c → Counting s w g n c 0 0
unfolding new_bytes listed_texts bytes_of_each some_long
count-start s w g n c h = record { upto = omega arith; short = refl; size = refl; small = omega arith }

module _ (s w : List ℕ) (g : Ground) (n c : ℕ) (h : SomeNew s w g n c) (i : ℕ) (l : i < c) where
  pub count-place : list_place g i + 8 ≤ length w
  count-place = omega (arith, h.names.room, keys_slots s w g h.ground, slots_top s w g h.ground, h.ground.top)

  pub count-entry : (v : ℕ) → v ≡ list_at w g i → Entry s w g v
  count-entry v e = rw e (names_entry s w g n c h.places h.names i l)

pub count-ground : (s w : List ℕ) (g : Ground) (n c : ℕ) → SomeNew s w g n c → Grounded s w g
count-ground s w g n c h = h.ground

module _ (s w : List ℕ) (g : Ground) (n c : ℕ) (h : SomeNew s w g n c) (i bytes : ℕ) (k : Counting s w g n c i bytes) where
  module _ (a : i < c) (v : ℕ) (e : v ≡ list_at w g i) (l : ℕ) (f : l ≡ stop (length (described_by s w g v))) where
    abbrev t : Text
    t = described_by s w g (list_at w g i)

    l_is : l ≡ stop (length t)
    l_is = f ∙ ap (λ (u : ℕ). stop (length (described_by s w g u))) e

    pub count-three : Fits w64 (3 + l)
    count-three = record { fits = omega (arith, l_is, stop-most (length t)) }

    pub count_fits : Fits w64 (bytes + (3 + l))
    count_fits = record { fits = omega (arith, k.small, h.few, l_is, stop-most (length t)) }

    -- one that is too long
    pub count_long : 65535 < l → Counts s w g c None
    unfolding Counts
    count_long z = go (some_long (listed_texts s w g c)) refl
      where
        go : (b : Bool) → some_long (listed_texts s w g c) ≡ b → None ≡ cond b None (Some (length (new_bytes s w g c)))
        go true p = refl
        go false p =
            let y : i + 1 + (c - (i + 1)) ≡ c = omega arith in
            let x = each-short s w g i (c - (i + 1)) (ap (λ (j : ℕ). some_long (listed_texts s w g j)) y ∙ p) in
            absurd (omega (arith, x, stop-long (length t) (rw l_is at z)))

    pub count-short : l ≤ 65535 → Counting s w g n c (i + 1) (bytes + (3 + l))
    count-short z =
        let x : stop (length t) ≡ length t = stop-short (length t) (rw l_is at z) in
        let y : some_long (listed_texts s w g (i + 1)) ≡ some_long (listed_texts s w g i) = ap some_long (new_more s w g i) ∙ long_no (listed_texts s w g i) t (omega (arith, l_is)) in
        record {
          upto = omega arith;
          short = y ∙ k.short;
          size = omega (arith, k.size, l_is, x, size_next s w g i);
          small = omega (arith, k.small, l_is, stop-most (length t));
        }

  pub count-done : c ≤ i → Counts s w g c (Some bytes)
  unfolding Counts
  count-done a =
      let z : i ≡ c = omega (arith, k.upto) in
      let e : some_long (listed_texts s w g c) ≡ false = ap (λ (j : ℕ). some_long (listed_texts s w g j)) (sym z) ∙ k.short in
      let f : bytes ≡ length (new_bytes s w g c) = k.size ∙ ap (λ (j : ℕ). length (new_bytes s w g j)) z in
      ap Some f ∙ ap (λ (b : Bool). cond b None (Some (length (new_bytes s w g c)))) (sym e)

pub ruleset counting = (rules, count-start, count-place, count-entry, count-ground, count-three, count_fits, count_long, count-short, count-done)
