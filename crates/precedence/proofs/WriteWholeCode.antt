-- The ways out of put_byte, put_head, fewer, put_parts and put_alternative. Assumes nothing.
use mathlib.Core.Path.{◌≡◌, refl, ap, ◌∙◌}
use mathlib.Core.Logic.{inl}
use mathlib.Core.List.{List, [], ◌∷◌, ◌++◌}
use Prim.Native.Nat.{ℕ, zero, suc, ◌+◌, ◌-◌, ◌*◌, ◌^◌, ◌<◌, ◌≤◌}
use native.Mathlib.Omega.{arith}
use native.Mathlib.Nat.{suc-mul}
use mir.Syntax.{w64}
use mir.Val.{Fits}
use borrow.Author.Rules.{rules}
use borrow.Author.Tests.{le-leb, lt-leb}
use lib.ListN.{length, set, get_or}
use Rattle.std.specs.Prelude.{Option, Some, None}
use Rattle.octets.specs.Working.Choice.{pick}
use Rattle.octets.specs.Plain.Runs.{part}
use Rattle.octets.specs.Working.Stores.{store}
use Rattle.texts.proofs.TableStays.{part-agree}
use Rattle.parse_tree.specs.declared.syntax.Alternative.{Alternative}
use Rattle.parse_tree.specs.Working.Nodes.{alternative_here}
use Rattle.grades.specs.declared.Indices.{Indices}
use Rattle.grades.specs.Annotations.{conditions_from, symbols_from}
use Rattle.grades.proofs.AnnotationsCode.{times-attributes}
use Rattle.precedence.specs.declared.substitute.Renaming.{Renaming}
use Rattle.precedence.specs.Substitute.{substitute_out}
use Rattle.precedence.specs.Write.{Puts, kept_bytes, head_out, fewer_by, stripped_out, PutsRenamed}
use Rattle.precedence.proofs.WriteLaws.{puts_beside, puts_on, puts_upto, puts_append}
use Rattle.precedence.proofs.WriteCode.{kept-agree}

-- ---- put_byte
pub set_store : (s : List ℕ) (at v : ℕ) → set s at v ≡ store s at (v ∷ [])
unfolding store
set_store s at v = refl

-- ---- what stands below stays, and there is room
module _ (w w1 : List ℕ) (lim to : ℕ) (xs : List ℕ) (q : ℕ) (g : Puts w lim to xs q w1) where
  pub behind_one : (n : ℕ) → to ≤ lim + 1 → n ≤ to → n ≤ q
  behind_one n h k = omega (arith, puts_on w w1 lim to xs q g h)

  pub room_one : lim + 16 ≤ length w → lim + 16 ≤ length w1
  room_one h = omega (arith, g.long)

  below_one : (x : ℕ) → x < to → get_or w1 x 0 ≡ get_or w x 0
  below_one x h = puts_beside w w1 lim to xs q g x (inl h)

  part-one_stays : (a e : ℕ) → e ≤ to → e ≤ length w → part a e w1 ≡ part a e w
  part-one_stays a e h k = part-agree w w1 a e g.long k (λ x l m. below_one x (omega arith))

  kept-stays : (wd a n k : ℕ) (f : Indices) → a + n * (2 + 3 * wd) ≤ to → to ≤ length w → kept_bytes wd w1 a n k f ≡ kept_bytes wd w a n k f
  unfolding kept_bytes
  kept-stays wd a zero k f h l = refl
  kept-stays wd a (suc n) k f h l =
      let z = suc-mul n (2 + 3 * wd) in
      let y = kept-agree w w1 a (a + (2 + 3 * wd)) k f g.long (omega arith) (λ x m. below_one x (omega arith)) in
      let t = kept-stays wd (a + (2 + 3 * wd)) n (k + 1) f (omega arith) l in
      rw (y, t)

-- ---- put_head
module _ (w w1 w2 w3 : List ℕ) (wd p count lim to q r s : ℕ) where
  pub head_put : p + (14 + wd) ≤ to → to ≤ lim + 1 → lim + 16 ≤ length w → Puts w lim to (part p (p + 9) w) q w1 → Puts w1 lim q (count ∷ []) r w2
      → Puts w2 lim r (part (p + 10) (p + (14 + wd)) w2) s w3 → Puts w lim to (head_out wd w p count) s w3
  unfolding head_out
  head_put h k l a b c =
      let y = part-one_stays w1 w2 lim q (count ∷ []) r b (p + 10) (p + (14 + wd)) (omega (arith, puts_on w w1 lim to (part p (p + 9) w) q a k)) (omega (arith, a.long)) in
      let x = part-one_stays w w1 lim to (part p (p + 9) w) q a (p + 10) (p + (14 + wd)) h (omega arith) in
      let z = y ∙ x in
      puts_append w w1 lim to (part p (p + 9) w) q a (count ∷ part (p + 10) (p + (14 + wd)) w) s w3
      (puts_append w1 w2 lim q (count ∷ []) r b (part (p + 10) (p + (14 + wd)) w) s w3 (rw z at c))

pub ruleset heading = (rules, puts_upto, behind_one, room_one, head_put)

-- ---- fewer
module _ (m : ℕ) (i : Option ℕ) where
  pub fewer_none : i ≡ None → m ≡ fewer_by m i
  unfolding fewer_by
  fewer_none h = cc

  pub fewer_zero : (k : ℕ) → i ≡ Some k → m ≡ 0 → m ≡ fewer_by m i
  unfolding fewer_by
  fewer_zero k h z = rw (h, z) refl

  pub fewer_one : (k : ℕ) → i ≡ Some k → m - 1 ≡ fewer_by m i
  unfolding fewer_by
  fewer_one k h = cc

pub ruleset lessening = (rules, fewer_none, fewer_zero, fewer_one)

-- ---- put_parts
module _ (w : List ℕ) (wd p e lim to : ℕ) (c : conditions_from wd w p ≤ e) (before : e ≤ to) (k : to ≤ lim + 1) (l : lim + 16 ≤ length w) where
  pub head_inside : p + (14 + wd) ≤ to
  unfolding conditions_from
  head_inside = omega arith

  pub whole_inside : p + (14 + wd) ≤ length w
  whole_inside = omega (arith, head_inside)

  pub head_fits : length w < 2 ^ 64 → Fits w64 (p + (14 + wd))
  head_fits h = record { fits = omega (arith, head_inside) }

  module _ (n : ℕ) (d : Alternative) (here : d ≡ alternative_here wd w p) (count : n ≡ d.attributes) where
    m : d.attributes ≡ get_or w (p + 9) 0
    m = ap (λ (a : Alternative). a.attributes) here

    z : n ≡ get_or w (p + 9) 0
    z = count ∙ m

    pub conditions-fit : p + (14 + wd) + n * (2 + 3 * wd) ≤ e
    unfolding conditions_from
    conditions-fit = rw z c

    pub conditions-fits : length w < 2 ^ 64 → Fits w64 (p + (14 + wd) + n * (2 + 3 * wd))
    conditions-fits h = record { fits = omega (arith, conditions-fit) }

    pub attributes_below : (xs : List ℕ) (q : ℕ) (w1 : List ℕ) → Puts w lim to xs q w1 → p + (14 + wd) + n * (2 + 3 * wd) ≤ q
    attributes_below xs q w1 g = omega (arith, conditions-fit, puts_on w w1 lim to xs q g k)

    pub parts_put : (v : Indices) (f g q r s : ℕ) (w1 w2 w3 : List ℕ) → f ≡ fewer_by d.attributes v.precedence → g ≡ fewer_by f v.assoc
        → Puts w lim to (head_out wd w p g) q w1 → Puts w1 lim q (kept_bytes wd w1 (p + (14 + wd)) n 0 v) r w2
        → Puts w2 lim r (part (p + (14 + wd) + n * (2 + 3 * wd)) e w2) s w3 → Puts w lim to (stripped_out wd w p e v) s w3
    unfolding stripped_out conditions_from
    parts_put v f g q r s w1 w2 w3 x y a b t =
        let o = conditions-fit in
        let h : fewer_by (fewer_by (get_or w (p + 9) 0) v.precedence) v.assoc ≡ g = cc m in
        let u = puts_on w w1 lim to (head_out wd w p g) q a k in
        let kb = kept-stays w w1 lim to (head_out wd w p g) q a wd (p + (14 + wd)) n 0 v (omega arith) (omega arith) in
        let p2 = part-one_stays w1 w2 lim q (kept_bytes wd w1 (p + (14 + wd)) n 0 v) r b (p + (14 + wd) + n * (2 + 3 * wd)) e (omega arith) (omega (arith, a.long)) in
        let p1 = part-one_stays w w1 lim to (head_out wd w p g) q a (p + (14 + wd) + n * (2 + 3 * wd)) e before (omega arith) in
        let both = puts_append w1 w2 lim q (kept_bytes wd w1 (p + (14 + wd)) n 0 v) r b (part (p + (14 + wd) + n * (2 + 3 * wd)) e w2) s w3 t in
        let whole = puts_append w w1 lim to (head_out wd w p g) q a (kept_bytes wd w1 (p + (14 + wd)) n 0 v ++ part (p + (14 + wd) + n * (2 + 3 * wd)) e w2) s w3 both in
        let same : head_out wd w p g ++ (kept_bytes wd w1 (p + (14 + wd)) n 0 v ++ part (p + (14 + wd) + n * (2 + 3 * wd)) e w2) ≡ stripped_out wd w p e v = cc z in
        rw same at whole

pub behind_two : (w w1 w2 : List ℕ) (lim to : ℕ) (xs ys : List ℕ) (q r n : ℕ) → Puts w lim to xs q w1 → Puts w1 lim q ys r w2 → to ≤ lim + 1 → n ≤ to → n ≤ r
behind_two w w1 w2 lim to xs ys q r n a b h k = omega (arith, puts_on w w1 lim to xs q a h, puts_on w1 w2 lim q ys r b (puts_upto w w1 lim to xs q a))

pub ruleset parting = (rules, head_inside, whole_inside, head_fits, times-attributes, conditions-fits, parts_put)

pub ruleset conditioning = (rules, conditions-fit)

pub ruleset attributing = (rules, attributes_below)

pub ruleset stopping = (rules, puts_upto)

pub ruleset rooming = (rules, room_one)

pub ruleset standing_behind = (rules, behind_two)

-- ---- put_alternative
module _ (w : List ℕ) (wd p e lim to : ℕ) (c : symbols_from wd w p ≤ e) (d : e ≤ to) (k : to ≤ lim + 1) (l : lim + 16 ≤ length w) where
  pub eleven_inside : p + 11 ≤ length w
  unfolding symbols_from conditions_from
  eleven_inside = omega arith

  pub conditions-before : conditions_from wd w p ≤ e
  unfolding symbols_from
  conditions-before = omega arith

  module _ (s : ℕ) (z : s ≡ symbols_from wd w p) where
    pub symbols_before : s ≤ e
    symbols_before = rw z c

    module _ (xs : List ℕ) (q : ℕ) (w1 : List ℕ) (g : Puts w lim to xs q w1) where
      pub symbols_short : e - s ≤ q
      symbols_short = omega (arith, puts_on w w1 lim to xs q g k)

      pub rename_room : q ≤ lim → q + 16 ≤ length w1
      rename_room h = omega (arith, g.long)

  module _ (f : Indices) (v : Renaming) (q : ℕ) (w1 : List ℕ) (g : Puts w lim to (stripped_out wd w p e f) q w1) where
    pub renamed_put : (s : ℕ) (w2 : List ℕ) → s ≡ symbols_from wd w p → q ≤ lim → w2 ≡ substitute_out wd w1 (q - (e - s)) q v.target v.here v.below v.side
        → PutsRenamed wd w p e f v lim to q w2
    unfolding pick
    renamed_put s w2 z h y = record { work = w1; puts = g; renamed = cc (le-leb q lim h) }

    pub renamed_not : lim < q → PutsRenamed wd w p e f v lim to q w1
    unfolding pick
    renamed_not h = record { work = w1; puts = g; renamed = cc (lt-leb q lim h) }

pub ruleset renaming_put = (rules, eleven_inside, conditions-before, symbols_before, symbols_short, rename_room, renamed_put, renamed_not)
