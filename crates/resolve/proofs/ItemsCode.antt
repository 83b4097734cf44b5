-- Items: the ways out of place, of the walks over arguments, of validate_item and validate. Assumes nothing.
use mathlib.Core.Path.{◌≡◌, refl, sym, ap, ◌∙◌}
use mathlib.Core.Bool.{Bool, true, false, not, false≢true}
use mathlib.Core.List.{List}
use Prim.Native.Nat.{ℕ, zero, suc, min, ◌+◌, ◌-◌, ◌*◌, ◌%◌, ◌^◌, ◌≤◌, ◌<◌}
use native.Mathlib.Omega.{arith}
use native.Mathlib.Nat.{suc-mul, mul-le-mul}
use borrow.Author.Rules.{rules}
use borrow.Author.Tests.{lt-ltb, le-ltb, le-leb, lt-leb, ne_eqb, ltb-true, ltb-false, not-true, not-false}
use mir.Syntax.{w64}
use mir.Val.{Fits}
use lib.Dec.{ltb, leb}
use lib.ListN.{length, get_or}
use Rattle.std.specs.Prelude.{Result, Ok, Err}
use Rattle.octets.specs.Working.Choice.{pick}
use Rattle.octets.specs.Plain.Numbers.{le_at}
use Rattle.parse_tree.specs.Working.Nodes.{span_in}
use Rattle.parse_tree.specs.Working.Refusals.{refusal_over}
use Rattle.parse_tree.specs.declared.refusal.Refusal.{Refusal}
use Rattle.parse_tree.specs.declared.syntax.Span.{Span}
use Rattle.texts.specs.declared.Map.{Map}
use Rattle.resolve.specs.declared.Grammar.{Grammar}
use Rattle.resolve.specs.Cells.{Room, known_at, define_at}
use Rattle.resolve.specs.Commands.{ran, run_then, Runs, run_out}
use Rattle.resolve.specs.Items.{Standing, item_place, item_place_in, Marking, marked, twice, marks_out, Marks, unmarks_out, marked_then, parts_out, item_out, items_out}
use Rattle.resolve.proofs.CellsCode.{length_define}
use Rattle.resolve.proofs.CommandsCode.{runs_fine, runs_refused, then-refused, then-fine}

-- ---- place
module _ (list n at end : ℕ) (w : List ℕ) (i : ℕ) where
  pub place_behind : n ≤ i → end ≡ item_place list n at end w i
  unfolding item_place pick
  place_behind h = cc (le-leb n i h)

  pub place_is : i < n → (v : ℕ) → v ≡ le_at 8 w (list + 8 * i) → at ≤ end → (d : ℕ) → d ≡ min v (end - at) → at + d ≡ item_place list n at end w i
  unfolding item_place pick
  place_is h v e o d z = rw (lt-leb n i h, ← e) (go (ltb (end - at) v) refl)
    where
      go : (x : Bool) → ltb (end - at) v ≡ x → at + d ≡ pick x end (at + v)
      go true y = let q = ltb-true (end - at) v y in omega arith
      go false y = let q = ltb-false (end - at) v y in omega arith

pub ruleset placing = (rules, place_behind, place_is)

-- ---- the walks over arguments
more : (k x : ℕ) → 0 < k → k * x ≡ x + (k - 1) * x
more zero x h = absurd (omega arith)
more (suc j) x h = let z : suc j - 1 ≡ j = omega arith in rw z (omega (arith, suc-mul j x))

-- k arguments stand from p on
pub record Listed (m : Map) (wd : ℕ) (w₀ w : List ℕ) (p k : ℕ) : Type 0 where
  pub room : Room m (length w)
  pub narrow : 2 ≤ wd
  pub wide : wd ≤ 3
  pub same : length w ≡ length w₀
  pub inside : p + k * (1 + wd) ≤ length w

listed_next : (m : Map) (wd : ℕ) (w₀ w : List ℕ) (p k : ℕ) → Listed m wd w₀ w p k → 0 < k → (w' : List ℕ) → length w' ≡ length w → Listed m wd w₀ w' (p + (1 + wd)) (k - 1)
listed_next m wd w₀ w p k g h w' l = record {
  room = rw l g.room;
  narrow = g.narrow;
  wide = g.wide;
  same = l ∙ g.same;
  inside = omega (arith, g.inside, more k (1 + wd) h);
}

module _ (m : Map) (wd : ℕ) (w₀ w : List ℕ) (p k : ℕ) (g : Listed m wd w₀ w p k) (h : 0 < k) where
  pub argument-inside : p + 1 + wd ≤ length w
  argument-inside = omega (arith, g.inside, more k (1 + wd) h)

  pub argument-fits : length w < 2 ^ 64 → Fits w64 (p + 1)
  argument-fits l = record { fits = omega (arith, argument-inside) }

  pub argument-ends : length w < 2 ^ 64 → Fits w64 (p + (1 + wd))
  argument-ends l = record { fits = omega (arith, argument-inside) }

-- ---- validate_macro_args
pub record MarksLeft (m : Map) (wd n at : ℕ) (w₀ w : List ℕ) (p k : ℕ) : Type 0 where
  pub listed : Listed m wd w₀ w p k
  pub rest : marks_out m wd k w p ≡ marks_out m wd n w₀ at

marks_twice : (x : Marking) (w : List ℕ) → x ≡ twice → Marks x false w
unfolding Marks
marks_twice x w e = rw e refl

marks_all : (x : Marking) (w : List ℕ) → x ≡ marked w → Marks x true w
unfolding Marks
marks_all x w e = rw e (refl, refl)

none_marked : (m : Map) (wd k : ℕ) (w : List ℕ) (p : ℕ) → k ≤ 0 → marks_out m wd k w p ≡ marked w
unfolding marks_out
none_marked m wd zero w p h = refl
none_marked m wd (suc k) w p h = absurd (omega arith)

pub mark_start : (m : Map) (wd n at : ℕ) (w : List ℕ) → Room m (length w) → 2 ≤ wd → wd ≤ 3 → at + n * (1 + wd) ≤ length w → MarksLeft m wd n at w w (at + 0 * (1 + wd)) n
mark_start m wd n at w r a b i = let z : at + 0 * (1 + wd) ≡ at = omega arith in rw z record { listed = record { room = r; narrow = a; wide = b; same = refl; inside = i }; rest = refl }

pub mark_done : (m : Map) (wd n at : ℕ) (w₀ w : List ℕ) (p k : ℕ) → MarksLeft m wd n at w₀ w p k → k ≤ 0 → Marks (marks_out m wd n w₀ at) true w
mark_done m wd n at w₀ w p k g h = marks_all _ w (sym g.rest ∙ none_marked m wd k w p h)

-- the next argument
module _ (m : Map) (wd : ℕ) (w : List ℕ) (p id : ℕ) (i : id ≡ le_at wd w (p + 1)) (d : ℕ) (j : d ≡ known_at m w id) (b : Bool) (u : b ≡ leb 512 d) where
  marked_before : (k : ℕ) → 0 < k → b ≡ true → marks_out m wd k w p ≡ twice
  unfolding marks_out pick
  marked_before zero h o = absurd (omega arith)
  marked_before (suc k) h o = cc

  marked_now : (k : ℕ) → 0 < k → b ≡ false → marks_out m wd k w p ≡ marks_out m wd (k - 1) (define_at m w id (d + 512)) (p + (1 + wd))
  unfolding marks_out pick
  marked_now zero h o = absurd (omega arith)
  marked_now (suc k) h o = let z : suc k - 1 ≡ k = omega arith in cc

  module _ (n at : ℕ) (w₀ : List ℕ) (k : ℕ) (g : MarksLeft m wd n at w₀ w p k) (h : 0 < k) where
    pub mark_twice : b ≡ true → (w' : List ℕ) → Marks (marks_out m wd n w₀ at) false w'
    mark_twice o w' = marks_twice _ w' (sym g.rest ∙ marked_before k h o)

    pub mark_next : b ≡ false → (a j : ℕ) → p ≡ at + a * (1 + wd) → k ≡ j + 1 → (x : ℕ) → x ≡ d + 512 → (w' : List ℕ) → w' ≡ define_at m w id x → MarksLeft m wd n at w₀ w' (at + (a + 1) * (1 + wd)) j
    mark_next o a j q z x f w' g' =
        let r : at + (a + 1) * (1 + wd) ≡ p + (1 + wd) = omega (arith, q) in
        let y : j ≡ k - 1 = omega arith in
        let e : w' ≡ define_at m w id (d + 512) = g' ∙ ap (define_at m w id) f in
        rw (r, y) (record {
          listed = listed_next m wd w₀ w p k g.listed h w' (ap length e ∙ length_define m w id (d + 512));
          rest = rw e (sym (marked_now k h o) ∙ g.rest);
        })

pub ruleset marking = (rules, argument-inside, argument-fits, argument-ends, mark_start, mark_done, mark_twice, mark_next)

-- ---- forget_macro_args
pub record UnmarksLeft (m : Map) (wd n at : ℕ) (w₀ w : List ℕ) (p k : ℕ) : Type 0 where
  pub listed : Listed m wd w₀ w p k
  pub rest : unmarks_out m wd k w p ≡ unmarks_out m wd n w₀ at

none_unmarked : (m : Map) (wd k : ℕ) (w : List ℕ) (p : ℕ) → k ≤ 0 → unmarks_out m wd k w p ≡ w
unfolding unmarks_out
none_unmarked m wd zero w p h = refl
none_unmarked m wd (suc k) w p h = absurd (omega arith)

pub unmark_start : (m : Map) (wd n at : ℕ) (w : List ℕ) → Room m (length w) → 2 ≤ wd → wd ≤ 3 → at + n * (1 + wd) ≤ length w → UnmarksLeft m wd n at w w (at + 0 * (1 + wd)) n
unmark_start m wd n at w r a b i = let z : at + 0 * (1 + wd) ≡ at = omega arith in rw z record { listed = record { room = r; narrow = a; wide = b; same = refl; inside = i }; rest = refl }

pub unmark_done : (m : Map) (wd n at : ℕ) (w₀ w : List ℕ) (p k : ℕ) → UnmarksLeft m wd n at w₀ w p k → k ≤ 0 → w ≡ unmarks_out m wd n w₀ at
unmark_done m wd n at w₀ w p k g h = sym (none_unmarked m wd k w p h) ∙ g.rest

unmarked_now : (m : Map) (wd : ℕ) (w : List ℕ) (p k : ℕ) → 0 < k → unmarks_out m wd k w p
    ≡ unmarks_out m wd (k - 1) (define_at m w (le_at wd w (p + 1)) (known_at m w (le_at wd w (p + 1)) % 512)) (p + (1 + wd))
unfolding unmarks_out
unmarked_now m wd w p zero h = absurd (omega arith)
unmarked_now m wd w p (suc k) h = let z : suc k - 1 ≡ k = omega arith in cc

pub unmark_next : (m : Map) (wd n at : ℕ) (w₀ w : List ℕ) (p k : ℕ) → UnmarksLeft m wd n at w₀ w p k → (a j : ℕ) → p ≡ at + a * (1 + wd) → k ≡ j + 1 → (id : ℕ) → id ≡ le_at wd w (p + 1) → (d : ℕ) → d ≡ known_at m w id
    → (w' : List ℕ) → w' ≡ define_at m w id (d % 512) → UnmarksLeft m wd n at w₀ w' (at + (a + 1) * (1 + wd)) j
unmark_next m wd n at w₀ w p k g a j q y id i d x w' e =
    let r : at + (a + 1) * (1 + wd) ≡ p + (1 + wd) = omega (arith, q) in
    let h : 0 < k = omega arith in
    let v : j ≡ k - 1 = omega arith in
    rw (r, v) (record {
      listed = listed_next m wd w₀ w p k g.listed h w' (ap length e ∙ length_define m w id (d % 512));
      rest = (let z = unmarked_now m wd w p k h in cc) ∙ g.rest;
    })

pub ruleset unmarking = (rules, argument-inside, argument-fits, argument-ends, unmark_start, unmark_done, unmark_next)

-- ---- validate_item
marked_from : (x : Marking) (r : Bool) (w : List ℕ) → Marks x r w → r ≡ true → x ≡ marked w
unfolding Marks
marked_from (marked v) r w h e = ap marked (sym h.1)
marked_from twice r w h e = absurd (false≢true (sym h ∙ e))

twice_from : (x : Marking) (r : Bool) (w : List ℕ) → Marks x r w → r ≡ false → x ≡ twice
unfolding Marks
twice_from (marked v) r w h e = absurd (false≢true (sym e ∙ h.0))
twice_from twice r w h e = refl

few : (n wd : ℕ) → n < 256 → wd ≤ 3 → n * (1 + wd) ≤ 1020
few n wd a b = mul-le-mul {n₁ = n} {m₁ = 1 + wd} {n₂ = 255} {m₂ = 4} (omega arith) (omega arith)

pub item_times : (n wd : ℕ) → n < 256 → wd ≤ 3 → Fits w64 (n * (1 + wd))
item_times n wd a b = record { fits = omega (arith, few n wd a b) }

module _ (m : Map) (t : Grammar) (w : List ℕ) (g : Standing m t (length w)) where
  pub item_fits_lem : (n at : ℕ) → n < 256 → at + 16 ≤ length w → length w * 1 < 2 ^ 63 → Fits w64 (at + 13 + t.width.bytes + n * (1 + t.width.bytes))
  item_fits_lem n at a b l = record { fits = omega (arith, few n t.width.bytes a g.wide, g.wide) }

  -- w' is work after some calls
  module _ (w' : List ℕ) (l : length w' ≡ length w) where
    pub item_room : Room m (length w')
    item_room = rw l g.records

    module _ (h : 0 < t.count) (p : ℕ) (k : p ≤ t.end) where
      pub item_inside : p ≤ length w'
      item_inside = omega (arith, g.inside h)

      pub item_behind : p + 16 ≤ length w'
      item_behind = omega (arith, g.inside h)

module _ (m : Map) (t : Grammar) (w : List ℕ) (at e n b : ℕ) (i : b ≡ get_or w (at + 10 + t.width.bytes) 0) (j : n ≡ b) where
  abbrev args : ℕ
  args = at + 13 + t.width.bytes

  pub item_none : t.end < at + 13 + t.width.bytes + n * (1 + t.width.bytes) → Runs (item_out m t w at e) (Ok tt) w
  unfolding item_out pick
  item_none h = runs_fine _ w (cc (lt-ltb t.end (args + n * (1 + t.width.bytes)) h))

  module _ (h : at + 13 + t.width.bytes + n * (1 + t.width.bytes) ≤ t.end) (r : Bool) (w1 : List ℕ) (k : Marks (marks_out m t.width.bytes n w (at + 13 + t.width.bytes)) r w1) where
    parts : item_out m t w at e ≡ parts_out m t.width.bytes w at n args (args + n * (1 + t.width.bytes)) e
    unfolding item_out pick
    parts = cc (le-ltb t.end (args + n * (1 + t.width.bytes)) h)

    pub item_twice : not r ≡ true → (s : Span) → s ≡ span_in w (at + 1) → (why : Refusal) → why ≡ refusal_over 7 s → (w' : List ℕ) → Runs (item_out m t w at e) (Err why) w'
    unfolding parts_out marked_then
    item_twice x s o why u w' =
        let v : why ≡ refusal_over 7 (span_in w (at + 1)) = cc in
        let y = twice_from (marks_out m t.width.bytes n w args) r w1 k (not-true r x) in
        rw v (runs_refused _ 7 (span_in w (at + 1)) w' (parts ∙ cc))

    module _ (x : not r ≡ false) (v : Result (Unit {0}) Refusal) (w2 : List ℕ) (o : Runs (run_out m t.width.bytes e w1 (at + 13 + t.width.bytes + n * (1 + t.width.bytes)) e) v w2) where
      going : item_out m t w at e ≡ run_then (run_out m t.width.bytes e w1 (args + n * (1 + t.width.bytes)) e) (λ w₂. ran (unmarks_out m t.width.bytes n w₂ args))
      unfolding parts_out marked_then
      going = let y = marked_from (marks_out m t.width.bytes n w args) r w1 k (not-false r x) in parts ∙ cc

      pub item_refused : (why : Refusal) → v ≡ Err why → (w' : List ℕ) → Runs (item_out m t w at e) (Err why) w'
      item_refused why u w' = rw going (then-refused _ _ why w2 w' (rw u at o))

      pub item_done : v ≡ Ok tt → (w3 : List ℕ) → w3 ≡ unmarks_out m t.width.bytes n w2 (at + 13 + t.width.bytes) → Runs (item_out m t w at e) (Ok tt) w3
      item_done u w3 z = runs_fine _ w3 (going ∙ then-fine _ _ w2 (rw u at o) ∙ ap ran (sym z))

pub ruleset itemizing = (rules, item_times, item_fits_lem, item_room, item_inside, item_behind, item_none, item_twice, item_refused, item_done)

-- ---- validate
-- the items from the i-th on leave what all leave
pub record ItemsLeft (m : Map) (t : Grammar) (w₀ w : List ℕ) (i : ℕ) : Type 0 where
  pub standing : Standing m t (length w)
  pub same : length w ≡ length w₀
  pub rest : items_out m t (t.count - i) i w ≡ items_out m t t.count 0 w₀

pub items_start : (m : Map) (t : Grammar) (w : List ℕ) → Standing m t (length w) → ItemsLeft m t w w 0
items_start m t w g = record { standing = g; same = refl; rest = ap (λ (n : ℕ). items_out m t n 0 w) (omega arith) }

none_left : (m : Map) (t : Grammar) (n i : ℕ) (w : List ℕ) → n ≡ 0 → items_out m t n i w ≡ ran w
unfolding items_out
none_left m t n i w e = rw e refl

module _ (m : Map) (t : Grammar) (w₀ w : List ℕ) (i : ℕ) (g : ItemsLeft m t w₀ w i) where
  pub items_done : t.count ≤ i → Runs (items_out m t t.count 0 w₀) (Ok tt) w
  items_done h = runs_fine _ w (sym g.rest ∙ none_left m t (t.count - i) i w (omega arith))

  module _ (h : i < t.count) where
    items_some : 0 < t.count
    items_some = omega arith

    pub items_listed : t.list + 8 * t.count ≤ length w
    items_listed = g.standing.listed items_some

    module _ (p : ℕ) (k : p ≤ t.end) where
      pub items_read : p < length w
      items_read = omega (arith, g.standing.inside items_some)

      pub items_room : p + 16 ≤ length w
      items_room = omega (arith, g.standing.inside items_some)

    opened : items_out m t (t.count - i) i w ≡ items_out m t (suc (t.count - (i + 1))) i w
    opened = ap (λ (n : ℕ). items_out m t n i w) (omega arith)

    module _ (p : ℕ) (x : p ≡ item_place_in t w i) where
      items_kept : (w' : List ℕ) → length w' ≡ length w → items_out m t (suc (t.count - (i + 1))) i w ≡ items_out m t (t.count - (i + 1)) (i + 1) w' → ItemsLeft m t w₀ w' (i + 1)
      items_kept w' l e = record { standing = rw l g.standing; same = l ∙ g.same; rest = sym e ∙ sym opened ∙ g.rest }

      skipped : (get_or w p 0 ≡ 16 → ⊥) → items_out m t (suc (t.count - (i + 1))) i w ≡ items_out m t (t.count - (i + 1)) (i + 1) w
      unfolding items_out pick
      skipped n = cc (ne_eqb (get_or w p 0) 16 n)

      pub items_skip : (get_or w p 0 ≡ 16 → ⊥) → (w'' : List ℕ) → w'' ≡ w → ItemsLeft m t w₀ w'' (i + 1)
      items_skip n w'' a = rw a (items_kept w refl (skipped n))

      module _ (z : get_or w p 0 ≡ 16) (e : ℕ) (q : e ≡ item_place_in t w (i + 1)) (v : Result (Unit {0}) Refusal) (w' : List ℕ) (o : Runs (item_out m t w p e) v w') where
        one : items_out m t (suc (t.count - (i + 1))) i w ≡ run_then (item_out m t w p e) (λ w''. items_out m t (t.count - (i + 1)) (i + 1) w'')
        unfolding items_out pick
        one = cc

        pub items_refused : (why : Refusal) → v ≡ Err why → (w'' : List ℕ) → Runs (items_out m t t.count 0 w₀) (Err why) w''
        items_refused why u w'' = rw (← g.rest, opened, one) (then-refused _ _ why w' w'' (rw u at o))

        pub items_next : v ≡ Ok tt → length w' ≡ length w → (w'' : List ℕ) → w'' ≡ w' → ItemsLeft m t w₀ w'' (i + 1)
        items_next u l w'' a = rw a (items_kept w' l (one ∙ then-fine _ _ w' (rw u at o)))

pub ruleset iterating = (rules, items_start, items_done, items_listed, items_read, items_room, items_skip, items_refused, items_next)
