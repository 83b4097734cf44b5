-- The ways out of put_run, put_attributes and fall_through. Assumes nothing.
use mathlib.Core.Path.{◌≡◌, refl, sym, ap, ◌∙◌}
use mathlib.Core.Logic.{◌⊎◌, inl, inr}
use mathlib.Core.List.{List, [], ◌∷◌, ◌++◌, append_assoc}
use Prim.Native.Nat.{ℕ, suc, ◌+◌, ◌-◌, ◌*◌, ◌<◌, ◌≤◌}
use native.Mathlib.Omega.{arith}
use borrow.Author.Rules.{rules}
use mathlib.Core.Bool.{Bool, true, false}
use lib.Dec.{eqb}
use Rattle.std.specs.Prelude.{Some}
use Rattle.std.specs.Option.{option_eq}
use lib.ListN.{length, set, get_or, length-set, length-append}
use Rattle.octets.specs.Working.Choice.{pick}
use Rattle.octets.specs.Plain.Numbers.{le}
use Rattle.octets.specs.Plain.Runs.{part}
use Rattle.octets.specs.Working.Stores.{store}
use Rattle.octets.proofs.NumbersLaws.{length-le}
use Rattle.octets.proofs.PartLaws.{part_length}
use Rattle.octets.proofs.StoreLaws.{store-append, length_store}
use Rattle.texts.proofs.TableStays.{part-agree}
use Rattle.resolve.proofs.CellsLaws.{store-past}
use Rattle.grades.specs.declared.Indices.{Indices}
use Rattle.precedence.specs.Write.{Puts, is_left_out, kept_one, kept_bytes, alternative_head, fall_bytes}
use Rattle.precedence.proofs.WriteLaws.{fits_or_not, puts_beside, puts_on, puts_upto, puts_append, puts_none, puts_whole, puts_not}

-- ---- put_run
pub run_ends : (w : List ℕ) (a e lim to r : ℕ) (w1 : List ℕ) → a ≤ e → e ≤ to → lim ≤ length w → (to + (e - a) ≤ lim → (r ≡ to + (e - a)) × (w1 ≡ store w to (part a e w))) → (lim < to + (e - a) → (r ≡ lim + 1) × (w1 ≡ w))
    → Puts w lim to (part a e w) r w1
run_ends w a e lim to r w1 h k l f g = go (fits_or_not (to + (e - a)) lim) (fits_or_not e (length w))
  where
    go : (to + (e - a) ≤ lim) ⊎ (lim < to + (e - a)) → (e ≤ length w) ⊎ (length w < e) → Puts w lim to (part a e w) r w1
    go (inl z) o = let (x, y) = f z in rw x (puts_whole w lim to (part a e w) w1 (e - a) (sym (part_length a e w (omega arith))) z y)
    go (inr z) (inl o) = let (x, y) = g z in rw (x, y) (puts_not w lim to (part a e w) (omega (arith, part_length a e w o)))
    go (inr z) (inr o) = let (x, y) = g z in rw (x, y) (puts_not w lim to (part a e w) (omega arith))

-- ---- put_attribute
module _ (w : List ℕ) (a e k lim to : ℕ) (f : Indices) (x : Bool) (i : x ≡ option_eq eqb f.precedence (Some k)) where
  pub kept_first : x ≡ true → to ≤ lim + 1 → Puts w lim to (kept_one w a e k f) to w
  unfolding kept_one is_left_out pick
  kept_first z h = let u = sym i ∙ z in rw u (puts_none w lim to h)

  module _ (z : x ≡ false) (y : Bool) (j : y ≡ option_eq eqb f.assoc (Some k)) where
    pub kept_second : (b : Bool) → b ≡ y → b ≡ true → to ≤ lim + 1 → Puts w lim to (kept_one w a e k f) to w
    unfolding kept_one is_left_out pick
    kept_second b q t h = let u = sym i ∙ z in let v = sym j ∙ sym q ∙ t in rw (u, v) (puts_none w lim to h)

    pub kept-other : (b : Bool) → b ≡ y → b ≡ false → (r : ℕ) (w1 : List ℕ) → Puts w lim to (part a e w) r w1 → Puts w lim to (kept_one w a e k f) r w1
    unfolding kept_one is_left_out pick
    kept-other b q t r w1 p = let u = sym i ∙ z in let v = sym j ∙ sym q ∙ t in rw (u, v) p

pub ruleset keeping_one = (rules, kept_first, kept_second, kept-other)

-- ---- put_attributes: what is to come, put behind, makes the whole
pub record Keeping (wd lim to : ℕ) (w : List ℕ) (at n : ℕ) (f : Indices) (out : List ℕ) (a k q : ℕ) : Type 0 where
  pub place : a + (n - k) * (2 + 3 * wd) ≤ to
  pub on : to ≤ q
  pub stop : q ≤ lim + 1
  pub inside : lim + 16 ≤ length w
  pub same : length out ≡ length w
  pub kept : (x : ℕ) → x < to → get_or out x 0 ≡ get_or w x 0
  pub carry : (r : ℕ) (w1 : List ℕ) → Puts out lim q (kept_bytes wd w a (n - k) k f) r w1 → Puts w lim to (kept_bytes wd w at n 0 f) r w1

pub keeping_start : (wd lim to : ℕ) (w : List ℕ) (at n : ℕ) (f : Indices) → at + n * (2 + 3 * wd) ≤ to → to ≤ lim + 1 → lim + 16 ≤ length w → Keeping wd lim to w at n f w (at + 0 * (2 + 3 * wd)) 0 to
keeping_start wd lim to w at n f h k l =
    let z : n - 0 ≡ n = omega arith in
    let y : at + 0 * (2 + 3 * wd) ≡ at = omega arith in
    rw y record { place = rw z h; on = omega arith; stop = k; inside = l; same = refl; kept = λ x h. refl; carry = λ r w1 p. rw z at p }

-- one more is so many bytes more
one_more : (m s : ℕ) → suc m * s ≡ s + m * s
one_more m s = omega arith

-- the same bytes below
pub kept-agree : (w out : List ℕ) (a e k : ℕ) (f : Indices) → length out ≡ length w → e ≤ length w → ((x : ℕ) → x < e → get_or out x 0 ≡ get_or w x 0) → kept_one out a e k f ≡ kept_one w a e k f
unfolding kept_one
kept-agree w out a e k f z h g = let y = part-agree w out a e z h (λ x l m. g x m) in rw y

module _ (wd lim to : ℕ) (w : List ℕ) (at n : ℕ) (f : Indices) (out : List ℕ) (a k q : ℕ) (g : Keeping wd lim to w at n f out a k q) where
  rest-is : k < n → (n - k) * (2 + 3 * wd) ≡ (2 + 3 * wd) + (n - (k + 1)) * (2 + 3 * wd)
  rest-is h = let z : n - k ≡ suc (n - (k + 1)) = omega arith in rw z (one_more (n - (k + 1)) (2 + 3 * wd))

  pub keeping_place : k < n → a + (2 + 3 * wd) ≤ q
  keeping_place h = let z = rest-is h in omega (arith, g.place, g.on, z)

  pub keeping_small : k < n → a + (2 + 3 * wd) ≤ length w
  keeping_small h = omega (arith, keeping_place h, g.stop, g.inside)

  pub keeping_stop : q ≤ lim + 1
  keeping_stop = g.stop

  pub keeping_inside : lim + 16 ≤ length out
  keeping_inside = omega (arith, g.inside, g.same)

  pub keeping_same : length out ≡ length w
  keeping_same = g.same

  bytes_step : k < n → kept_bytes wd w a (n - k) k f ≡ kept_one w a (a + (2 + 3 * wd)) k f ++ kept_bytes wd w (a + (2 + 3 * wd)) (n - (k + 1)) (k + 1) f
  unfolding kept_bytes
  bytes_step h = let z : n - k ≡ suc (n - (k + 1)) = omega arith in rw z

  keeping_next : k < n → (r : ℕ) (w1 : List ℕ) → Puts out lim q (kept_one out a (a + (2 + 3 * wd)) k f) r w1 → Keeping wd lim to w at n f w1 (a + (2 + 3 * wd)) (k + 1) r
  keeping_next h r w1 p =
      let z = rest-is h in
      let y = kept-agree w out a (a + (2 + 3 * wd)) k f g.same (keeping_small h) (λ x l. g.kept x (omega (arith, g.place, z))) in
      let one : Puts out lim q (kept_one w a (a + (2 + 3 * wd)) k f) r w1 = rw y at p in
      let on = puts_on out w1 lim q (kept_one w a (a + (2 + 3 * wd)) k f) r one g.stop in
      let b = bytes_step h in
      record {
        place = omega (arith, g.place, z);
        on = omega (arith, g.on, on);
        stop = puts_upto out w1 lim q (kept_one w a (a + (2 + 3 * wd)) k f) r one;
        inside = g.inside;
        same = one.long ∙ g.same;
        kept = λ x l. puts_beside out w1 lim q (kept_one w a (a + (2 + 3 * wd)) k f) r one x (inl (omega (arith, g.on))) ∙ g.kept x l;
        carry = λ r2 w2 p2. g.carry r2 w2 (rw b (puts_append out w1 lim q (kept_one w a (a + (2 + 3 * wd)) k f) r one (kept_bytes wd w (a + (2 + 3 * wd)) (n - (k + 1)) (k + 1) f) r2 w2 p2));
      }

  none_left : n ≤ k → kept_bytes wd w a (n - k) k f ≡ []
  unfolding kept_bytes
  none_left h = let z : n - k ≡ 0 = omega arith in rw z

  pub keeping_done : n ≤ k → Puts w lim to (kept_bytes wd w at n 0 f) q out
  keeping_done h = let z = none_left h in g.carry q out (rw z (puts_none out lim q g.stop))

-- the k-th attribute
module _ (wd lim to : ℕ) (w : List ℕ) (at n : ℕ) (f : Indices) (out : List ℕ) (k q : ℕ) (g : Keeping wd lim to w at n f out (at + k * (2 + 3 * wd)) k q) where
  pub keeping_more : k < n → (r : ℕ) (w1 : List ℕ) → Puts out lim q (kept_one out (at + k * (2 + 3 * wd)) (at + k * (2 + 3 * wd) + (2 + 3 * wd)) k f) r w1
      → Keeping wd lim to w at n f w1 (at + (k + 1) * (2 + 3 * wd)) (k + 1) r
  keeping_more h r w1 p =
      let z : at + (k + 1) * (2 + 3 * wd) ≡ at + k * (2 + 3 * wd) + (2 + 3 * wd) = omega arith in
      rw z (keeping_next wd lim to w at n f out (at + k * (2 + 3 * wd)) k q g h r w1 p)

pub ruleset keeping = (rules, keeping_start, keeping_place, keeping_small, keeping_stop, keeping_inside, keeping_same, keeping_more, keeping_done)

-- ---- store_command, store_named
set_store : (s : List ℕ) (at v : ℕ) → set s at v ≡ store s at (v ∷ [])
unfolding store
set_store s at v = refl

module _ (w : List ℕ) (to : ℕ) where
  pub command_put : (code span : ℕ) (m : List ℕ) → m ≡ store w (to + 1) (le 8 span) → set m to code ≡ store w to (code ∷ le 8 span)
  command_put code span m p =
      set_store m to code ∙ ap (λ (s : List ℕ). store s to (code ∷ [])) p
      ∙ store-past w (to + 1) to (le 8 span) (code ∷ []) (inl (omega arith))
      ∙ store-append w to (to + 1) (code ∷ []) (le 8 span) (omega arith)

  pub named_put : (code wd span k : ℕ) (w1 w2 : List ℕ) → w1 ≡ store w to (code ∷ le 8 span) → w2 ≡ store w1 (to + 9) (le wd k) → w2 ≡ store w to (code ∷ (le 8 span ++ le wd k))
  named_put code wd span k w1 w2 a b =
      b ∙ ap (λ (x : List ℕ). store x (to + 9) (le wd k)) a ∙ store-append w to (to + 9) (code ∷ le 8 span) (le wd k) (omega (arith, length-le 8 span))

-- ---- store_action
module _ (w w1 : List ℕ) (to span act : ℕ) (a : w1 ≡ store w to (18 ∷ le 8 span)) where
  head_same : length w1 ≡ length w
  head_same = ap length a ∙ length_store w to (18 ∷ le 8 span)

  pub action_first : to + 12 ≤ length w → to + 9 < length w1
  action_first h = omega (arith, head_same)

  pub action_second : to + 12 ≤ length w → to + 10 < length (set w1 (to + 9) 0)
  action_second h = omega (arith, head_same, length-set w1 (to + 9) 0)

  abbrev v3 : List ℕ
  v3 = set (set w1 (to + 9) 0) (to + 10) 0

  flags_long : length v3 ≡ length w
  flags_long = length-set (set w1 (to + 9) 0) (to + 10) 0 ∙ length-set w1 (to + 9) 0 ∙ head_same

  pub action_third : to + 12 ≤ length w → to + 11 < length v3
  action_third h = omega (arith, flags_long)

  pub action_kept : length (set v3 (to + 11) act) ≡ length w
  action_kept = length-set v3 (to + 11) act ∙ flags_long

  pub action_stored : set v3 (to + 11) act ≡ store w to (18 ∷ (le 8 span ++ (0 ∷ (0 ∷ (act ∷ [])))))
  action_stored =
      set_store v3 (to + 11) act ∙ ap (λ (x : List ℕ). store x (to + 11) (act ∷ [])) (set_store (set w1 (to + 9) 0) (to + 10) 0)
      ∙ store-append (set w1 (to + 9) 0) (to + 10) (to + 11) (0 ∷ []) (act ∷ []) (omega arith)
      ∙ ap (λ (x : List ℕ). store x (to + 10) (0 ∷ (act ∷ []))) (set_store w1 (to + 9) 0)
      ∙ store-append w1 (to + 9) (to + 10) (0 ∷ []) (0 ∷ (act ∷ [])) (omega arith)
      ∙ ap (λ (x : List ℕ). store x (to + 9) (0 ∷ (0 ∷ (act ∷ [])))) a
      ∙ store-append w to (to + 9) (18 ∷ le 8 span) (0 ∷ (0 ∷ (act ∷ []))) (omega (arith, length-le 8 span))

-- ---- store_alternative
module _ (w w4 w5 w6 : List ℕ) (to wd span act text symbols : ℕ) where
  pub alternative_stored : w4 ≡ store w to (18 ∷ (le 8 span ++ (0 ∷ (0 ∷ (act ∷ []))))) → w5 ≡ store w4 (to + 12) (le wd text) → w6 ≡ store w5 (to + 12 + wd) (le 2 symbols)
      → w6 ≡ store w to (alternative_head wd span act text symbols)
  unfolding alternative_head
  alternative_stored a b c =
      let z : (18 ∷ (le 8 span ++ (0 ∷ (0 ∷ (act ∷ []))))) ++ (le wd text ++ le 2 symbols) ≡ 18 ∷ (le 8 span ++ (0 ∷ (0 ∷ (act ∷ (le wd text ++ le 2 symbols))))) =
      ap (λ (x : List ℕ). 18 ∷ x) (append_assoc (le 8 span) (0 ∷ (0 ∷ (act ∷ []))) (le wd text ++ le 2 symbols)) in
      c ∙ ap (λ (x : List ℕ). store x (to + 12 + wd) (le 2 symbols)) b
      ∙ store-append w4 (to + 12) (to + 12 + wd) (le wd text) (le 2 symbols) (omega (arith, length-le wd text))
      ∙ ap (λ (x : List ℕ). store x (to + 12) (le wd text ++ le 2 symbols)) a
      ∙ store-append w to (to + 12) (18 ∷ (le 8 span ++ (0 ∷ (0 ∷ (act ∷ []))))) (le wd text ++ le 2 symbols) (omega (arith, length-le 8 span, length-append (le 8 span) (0 ∷ (0 ∷ (act ∷ [])))))
      ∙ ap (store w to) z

pub alternative_long : (wd span act text symbols : ℕ) → length (alternative_head wd span act text symbols) ≡ 14 + wd
unfolding alternative_head
alternative_long wd span act text symbols =
    omega (arith, length-append (le 8 span) (0 ∷ (0 ∷ (act ∷ (le wd text ++ le 2 symbols)))), length-le 8 span, length-le wd text, length-le 2 symbols, length-append (le wd text) (le 2 symbols))

-- ---- fall_through
pub fall_length : (wd span below : ℕ) → length (fall_bytes wd span below) ≡ 23 + 2 * wd
unfolding fall_bytes
fall_length wd span below =
    let d = length-append (le 8 span) (le wd below) in
    let e = length-append (alternative_head wd span 0 0 1) (36 ∷ (le 8 span ++ le wd below)) in
    omega (arith, alternative_long wd span 0 0 1, length-le 8 span, length-le wd below)

pub fall_whole : (w : List ℕ) (to wd span below : ℕ) (w1 w2 : List ℕ) → w1 ≡ store w to (alternative_head wd span 0 0 1) → w2 ≡ store w1 (to + (14 + wd)) (36 ∷ (le 8 span ++ le wd below)) → w2 ≡ store w to (fall_bytes wd span below)
unfolding fall_bytes
fall_whole w to wd span below w1 w2 p q =
    let n = alternative_long wd span 0 0 1 in
    q ∙ ap (λ (x : List ℕ). store x (to + (14 + wd)) (36 ∷ (le 8 span ++ le wd below))) p ∙ store-append w to (to + (14 + wd)) (alternative_head wd span 0 0 1) (36 ∷ (le 8 span ++ le wd below)) (omega arith)

pub ruleset storing = (rules, command_put, named_put, action_first, action_second, action_third, action_kept, action_stored, alternative_stored)
