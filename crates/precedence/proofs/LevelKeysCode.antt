-- The ways out of put_alternatives. Assumes nothing.
use mathlib.Core.Path.{◌≡◌, refl, ◌∙◌}
use mathlib.Core.Logic.{◌⊎◌, inl, inr}
use mathlib.Core.List.{List}
use Prim.Native.Nat.{ℕ, suc, ◌+◌, ◌-◌, ◌*◌, ◌^◌, ◌<◌, ◌≤◌}
use native.Mathlib.Omega.{arith}
use mir.Syntax.{w64}
use mir.Val.{Fits}
use borrow.Author.Rules.{rules}
use lib.ListN.{length, get_or}
use Rattle.octets.specs.Plain.Numbers.{le_at}
use Rattle.texts.proofs.TableStays.{le_at-agree}
use Rattle.resolve.specs.Whole.{Apart}
use Rattle.grades.specs.declared.Ids.{Ids}
use Rattle.grades.specs.Annotations.{conditions_from, symbols_from}
use Rattle.precedence.specs.declared.level.Level.{Level}
use Rattle.precedence.specs.Write.{Puts}
use Rattle.precedence.specs.Level.{key_entry, key_place, key_end, KeyInside, PutsKey, PutsKeys, PutsAlternatives, KeysInside}
use Rattle.precedence.proofs.WriteLaws.{puts_beside, puts_on, puts_upto}
use Rattle.precedence.proofs.LevelStays.{Between, renamed_between}

-- ---- what is read stays
-- a number that stands apart from what is written
pub number-stays : (n a : ℕ) (w out : List ℕ) (lim to : ℕ) → ((x : ℕ) → (x < to) ⊎ (lim + 16 ≤ x) → get_or out x 0 ≡ get_or w x 0) → Apart a (a + n) to (lim + 16) → le_at n out a ≡ le_at n w a
number-stays n a w out lim to f (inl h) = le_at-agree n w out a (λ i k l. f i (inl (omega arith)))
number-stays n a w out lim to f (inr h) = le_at-agree n w out a (λ i k l. f i (inr (omega arith)))

pub apart_part : (a b c d to lim : ℕ) → c ≤ a → b ≤ d → Apart c d to lim → Apart a b to lim
apart_part a b c d to lim h k (inl x) = inl (omega arith)
apart_part a b c d to lim h k (inr x) = inr (omega arith)

apart_later : (a b to q lim : ℕ) → to ≤ q → Apart a b to lim → Apart a b q lim
apart_later a b to q lim h (inl x) = inl (omega arith)
apart_later a b to q lim h (inr x) = inr x

symbols_stay : (wd : ℕ) (w out : List ℕ) (p e to : ℕ) → ((x : ℕ) → x < to → get_or out x 0 ≡ get_or w x 0) → symbols_from wd w p ≤ e → e ≤ to → symbols_from wd out p ≡ symbols_from wd w p
unfolding symbols_from conditions_from
symbols_stay wd w out p e to f h k =
    let x = f (p + 9) (omega arith) in
    let y = f (p + 10) (omega arith) in
    rw (x, y)

module _ (wd : ℕ) (w out : List ℕ) (places lim to q k : ℕ) (on : to ≤ q) (same : length out ≡ length w)
    (kept : (x : ℕ) → (x < to) ⊎ (lim + 16 ≤ x) → get_or out x 0 ≡ get_or w x 0) (g : KeyInside wd w places lim to k) where
  pub key_stays : KeyInside wd out places lim q k
  unfolding key_place key_end
  key_stays =
      let x = number-stays 8 (key_entry places k) w out lim to kept (apart_part (key_entry places k) (key_entry places k + 8) (key_entry places k) (key_entry places k + 16) to (lim + 16) (omega arith) (omega arith) g.apart) in
      let y = number-stays 8 (key_entry places k + 8) w out lim to kept (apart_part (key_entry places k + 8) (key_entry places k + 8 + 8) (key_entry places k) (key_entry places k + 16) to (lim + 16) (omega arith) (omega arith) g.apart) in
      let z = symbols_stay wd w out (le_at 8 w (key_entry places k)) (le_at 8 w (key_entry places k + 8)) to (λ i h. kept i (inl h)) g.symbols g.upto in
      record {
        entry = omega (arith, g.entry);
        apart = apart_later (key_entry places k) (key_entry places k + 16) to q (lim + 16) on g.apart;
        symbols = rw (x, y, z) g.symbols;
        upto = rw y (omega (arith, g.upto));
      }

-- the keys of a level, after something else is put
pub keys_stay : (wd : ℕ) (w w1 : List ℕ) (places keys : ℕ) (l : Level) (lim to : ℕ) (xs : List ℕ) (q : ℕ) → to ≤ lim + 1 → KeysInside wd w places keys l lim to → Puts w lim to xs q w1 → KeysInside wd w1 places keys l lim q
keys_stay wd w w1 places keys l lim to xs q h g p =
    let on = puts_on w w1 lim to xs q p h in
    record { ordered = g.ordered; inside = omega (arith, g.inside, p.long); apart = apart_later keys (keys + 8 * l.last) to q (lim + 16) on g.apart; each = λ i a b. one i a b }
  where
    kept : (x : ℕ) → (x < to) ⊎ (lim + 16 ≤ x) → get_or w1 x 0 ≡ get_or w x 0
    kept x (inl o) = puts_beside w w1 lim to xs q p x (inl o)
    kept x (inr o) = puts_beside w w1 lim to xs q p x (inr (omega arith))

    one : (i : ℕ) → l.first ≤ i → i < l.last → KeyInside wd w1 places lim q (le_at 8 w1 (keys + 8 * i))
    one i a b =
        let y = number-stays 8 (keys + 8 * i) w w1 lim to kept (apart_part (keys + 8 * i) (keys + 8 * i + 8) keys (keys + 8 * l.last) to (lim + 16) (omega arith) (omega arith) g.apart) in
        rw y (key_stays wd w w1 places lim to q (le_at 8 w (keys + 8 * i)) (puts_on w w1 lim to xs q p h) p.long kept (g.each i a b))

-- ---- the loop: what is to come, put behind, makes the whole
pub record Levelling (wd : ℕ) (ids : Ids) (places keys target : ℕ) (l : Level) (lim to : ℕ) (w out : List ℕ) (i q : ℕ) : Type 0 where
  pub narrow : wd ≤ 3
  pub begun : l.first ≤ i
  pub on : to ≤ q
  pub stop : q ≤ lim + 1
  pub room : lim + 16 ≤ length w
  pub same : length out ≡ length w
  pub kept : (x : ℕ) → (x < to) ⊎ (lim + 16 ≤ x) → get_or out x 0 ≡ get_or w x 0
  pub inside : KeysInside wd w places keys l lim to
  pub carry : (r : ℕ) (w1 : List ℕ) → PutsKeys wd ids places keys target l lim (l.last - i) i out q r w1 → PutsKeys wd ids places keys target l lim (l.last - l.first) l.first w to r w1

module _ (wd : ℕ) (ids : Ids) (places keys target : ℕ) (l : Level) (lim to : ℕ) (w : List ℕ) where
  pub levelling_start : wd ≤ 3 → KeysInside wd w places keys l lim to → to ≤ lim + 1 → lim + 16 ≤ length w → Levelling wd ids places keys target l lim to w w l.first to
  levelling_start n g h k = record { narrow = n; begun = omega arith; on = omega arith; stop = h; room = k; same = refl; kept = λ x o. refl; inside = g; carry = λ r w1 p. p }

  module _ (out : List ℕ) (i q : ℕ) (g : Levelling wd ids places keys target l lim to w out i q) where
    pub levelling_stop : q ≤ lim + 1
    levelling_stop = g.stop

    pub levelling_room : lim + 16 ≤ length out
    levelling_room = omega (arith, g.room, g.same)

    pub levelling_same : length out ≡ length w
    levelling_same = g.same

    pub levelling_done : l.last ≤ i → PutsAlternatives wd ids places keys target l lim w to q out
    levelling_done h =
        let z : l.last - i ≡ 0 = omega arith in
        record { each = g.carry q out (rw z (refl, refl)); stop = g.stop; on = g.on; long = g.same; others = g.kept }

    module _ (h : i < l.last) where
      pub levelling_key : keys + 8 * i + 8 ≤ length out
      levelling_key = omega (arith, g.inside.inside, g.same)

      pub levelling_eight : length out < 2 ^ 64 → Fits w64 (8 * i)
      levelling_eight z = record { fits = omega (arith, levelling_key) }

      pub levelling_fits : length out < 2 ^ 64 → Fits w64 (keys + 8 * i)
      levelling_fits z = record { fits = omega (arith, levelling_key) }

      module _ (k : ℕ) (z : k ≡ le_at 8 out (keys + 8 * i)) where
        pub levelling_inside : KeyInside wd out places lim q k
        levelling_inside =
            let y = z ∙ number-stays 8 (keys + 8 * i) w out lim to g.kept (apart_part (keys + 8 * i) (keys + 8 * i + 8) keys (keys + 8 * l.last) to (lim + 16) (omega arith) (omega arith) g.inside.apart) in
            key_stays wd w out places lim to q k g.on g.same g.kept (rw y (g.inside.each i g.begun h))

        pub levelling_next : (r : ℕ) (w1 : List ℕ) → PutsKey wd ids places target l lim k out q r w1 → Levelling wd ids places keys target l lim to w w1 (i + 1) r
        levelling_next r w1 p =
            let inside = levelling_inside in
            let b : Between q lim out w1 = renamed_between wd out _ _ _ _ lim q r w1 g.narrow inside.symbols (omega (arith, inside.upto, g.stop, levelling_room)) g.stop p.puts in
            let s : l.last - i ≡ suc (l.last - (i + 1)) = omega arith in
            let p2 : PutsKey wd ids places target l lim (le_at 8 out (keys + 8 * i)) out q r w1 = rw z at p in
            record {
              narrow = g.narrow;
              begun = omega (arith, g.begun);
              on = omega (arith, g.on, puts_on out p.puts.work lim q _ r p.puts.puts g.stop);
              stop = puts_upto out p.puts.work lim q _ r p.puts.puts;
              room = g.room;
              same = b.long ∙ g.same;
              kept = λ x o. b.same x (elim o [ inl u ↦ inl (omega (arith, g.on)) | inr u ↦ inr u ]) ∙ g.kept x o;
              inside = g.inside;
              carry = λ r2 w2 more. g.carry r2 w2 (rw s (r, w1, p2, more));
            }

pub ruleset levelling = (rules, levelling_start, levelling_stop, levelling_room, levelling_same, levelling_done, levelling_key, levelling_eight, levelling_fits, levelling_inside, levelling_next)
