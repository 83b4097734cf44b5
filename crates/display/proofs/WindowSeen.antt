-- What two windows say of two printed forms. Assumes nothing.
use mathlib.Core.Path.{◌≡◌, refl, sym, ap, subst, ◌∙◌}
use mathlib.Core.Bool.{Bool, true, false}
use mathlib.Core.List.{List, [], ◌∷◌, ◌++◌}
use Prim.Native.Nat.{ℕ, ◌+◌, ◌-◌, ◌<◌, ◌≤◌}
use native.Mathlib.Omega.{arith}
use borrow.Author.Rules.{rules}
use lib.Dec.{eqb, ltb, leb}
use lib.Pointwise.{pointwise}
use borrow.Author.Tests.{ltb-true, ltb-false, leb-true, leb-false, eqb-true, eqb-false, eq-eqb, ne_eqb, le-leb, lt-leb}
use lib.ListN.{length, take, drop, take-append-drop}
use lib.Seq.{take-append_seam, length-take-le}
use Rattle.std.proofs.lemmas.List.{take_all}
use Rattle.octets.specs.Working.Choice.{pick}
use Rattle.octets.specs.Working.Sink.{lay, adv, Laid}
use Rattle.octets.specs.Plain.Runs.{part, same_as}
use Rattle.octets.proofs.ChoiceLaws.{by_pick}
use Rattle.octets.proofs.StoreLaws.{store_is}
use Rattle.octets.proofs.SameLaws.{same_as-eq, said-same}
use Rattle.parse_tree.specs.Plain.Display.{print}
use Rattle.texts.specs.declared.Map.{Map}
use Rattle.display.specs.declared.window.Verdict.{Verdict}
use Rattle.display.specs.declared.window.Verdict.TheVariants.{Same, Differ, More}
use Rattle.display.specs.Window.{judged, Seen, Fills, Looks}
use Rattle.display.proofs.SinkLaws.{lay-append, lay-fits, lay-over, length_lay, adv-in, adv-fits}

-- ---- same_as
differ : (xs ys : List ℕ) → (length xs ≡ length ys → ⊥) → same_as xs ys ≡ false
differ xs ys h = go (same_as xs ys) refl
  where
    go : (b : Bool) → same_as xs ys ≡ b → b ≡ false
    go true e = absurd (h (ap length (same_as-eq xs ys e)))
    go false e = refl

abbrev under : Bool → Bool → Bool
under true b = b
under false b = false

-- after two runs of one length, the rest decides
same_append : (xs ys xs' ys' : List ℕ) → length xs ≡ length ys → same_as (xs ++ xs') (ys ++ ys') ≡ under (same_as xs ys) (same_as xs' ys')
unfolding same_as
same_append [] [] xs' ys' l = refl
same_append [] (y ∷ ys) xs' ys' l = absurd (omega arith)
same_append (x ∷ xs) [] xs' ys' l = absurd (omega arith)
same_append (x ∷ xs) (y ∷ ys) xs' ys' l = go (eqb x y) refl (same_append xs ys xs' ys' (omega arith))
  where
    go : (b : Bool) → eqb x y ≡ b → same_as (xs ++ xs') (ys ++ ys') ≡ under (same_as xs ys) (same_as xs' ys')
        → same_as (x ∷ (xs ++ xs')) (y ∷ (ys ++ ys')) ≡ under (same_as (x ∷ xs) (y ∷ ys)) (same_as xs' ys')
    go true i e = cc
    go false i e = cc

-- ---- what a window holds
front : (x xs : List ℕ) (m : ℕ) → m ≡ length xs → length xs ≤ length x → take m (lay x (length x) 0 xs) ≡ xs
front x xs m e h =
    let a : lay x (length x) 0 xs ≡ take 0 x ++ xs ++ drop (0 + length xs) x = lay-fits x (length x) 0 xs (omega arith) ∙ store_is x 0 xs (omega arith) in
    rw (e, a) (take-append_seam xs (drop (0 + length xs) x))

cut : (x xs : List ℕ) (m : ℕ) → m ≡ length x → length x ≤ length xs → take m (lay x (length x) 0 xs) ≡ take m xs
cut x xs m e h =
    let w = length x in
    let l : length (take w xs) ≡ w = length-take-le w xs h in
    let a : lay x w 0 xs ≡ lay x w 0 (take w xs ++ drop w xs) = ap (lay x w 0) (sym (take-append-drop w xs)) in
    let b = lay-append x w 0 (take w xs) (drop w xs) in
    let c' = adv-in w 0 w (omega arith) in
    let c'' : adv w 0 w ≡ w = omega arith in
    let c : adv w 0 (length (take w xs)) ≡ w = rw l c'' in
    let d : lay (lay x w 0 (take w xs)) w w (drop w xs) ≡ lay x w 0 (take w xs) = lay-over (lay x w 0 (take w xs)) w w (drop w xs) (omega arith) in
    let f : lay x w 0 xs ≡ lay x w 0 (take w xs) = cc in
    rw (e, f) (front x (take w xs) w (sym l) (omega arith))

-- ---- look: xs and ys are what is left of the two forms
module _ (x y xs ys : List ℕ) (i j : ℕ) (l : length x ≡ length y) (a : i ≡ adv (length x) 0 (length xs)) (b : j ≡ adv (length y) 0 (length ys)) where
  win_differ : (i ≡ j → ⊥) → same_as xs ys ≡ false
  win_differ h = differ xs ys (λ z. h (cc))

  module _ (k : i ≡ j) where
    ended : i ≤ length x → (i ≡ length xs) × (i ≡ length ys) × (length xs ≤ length x) × (length ys ≤ length y)
    ended h =
        let p = adv-fits (length x) 0 (length xs) (omega arith) in
        let q = adv-fits (length y) 0 (length ys) (omega arith) in
        let u = adv-in (length x) 0 (length xs) (omega arith) in
        let v = adv-in (length y) 0 (length ys) (omega arith) in
        (omega arith, omega arith, omega arith, omega arith)

    win_ended : (r : Bool) → i ≤ length x → r ≡ same_as (part 0 (0 + i) (lay x (length x) 0 xs)) (part 0 (0 + i) (lay y (length y) 0 ys)) → same_as xs ys ≡ r
    unfolding part
    win_ended r h e =
        let z = ended h in
        let u : 0 + i - 0 ≡ i = omega arith in
        cc (front x xs i z.0 z.2, front y ys i z.1 z.3)

    longer : length x < i → (length x < length xs) × (length y < length ys)
    longer h = (over x xs (omega arith), over y ys (omega (arith, k, b)))
      where
        over : (x xs : List ℕ) → length x < adv (length x) 0 (length xs) → length x < length xs
        over x xs h = go (ltb (length x) (length xs)) refl
          where
            go : (t : Bool) → ltb (length x) (length xs) ≡ t → length x < length xs
            go true e = ltb-true (length x) (length xs) e
            go false e = let z = ltb-false (length x) (length xs) e in absurd (omega (arith, h, adv-in (length x) 0 (length xs) (omega arith)))

    win_split : (r : Bool) (w : ℕ) → w ≡ length x → length x < i → r ≡ same_as (part 0 (0 + w) (lay x (length x) 0 xs)) (part 0 (0 + w) (lay y (length y) 0 ys))
        → same_as xs ys ≡ under r (same_as (drop w xs) (drop w ys))
    unfolding part
    win_split r w q h e =
        let z = longer h in
        let u : 0 + w - 0 ≡ w = omega arith in
        let p : length (take w xs) ≡ length (take w ys) = length-take-le w xs (omega arith) ∙ sym (length-take-le w ys (omega arith)) in
        let v : r ≡ same_as (take w xs) (take w ys) = cc (cut x xs w q (omega arith), cut y ys w (q ∙ l) (omega arith)) in
        let t = same_append (take w xs) (take w ys) (drop w xs) (drop w ys) p in
        cc (take-append-drop w xs, take-append-drop w ys)

-- ---- judge
part_front : (n : ℕ) (xs : List ℕ) → part 0 (0 + n) xs ≡ take n xs
unfolding part
part_front n xs = let z : 0 + n - 0 ≡ n = omega arith in ap (λ (k : ℕ). take k xs) z

-- what `==` says of the first n bytes of two slices
fronts : (n : ℕ) (xs ys : List ℕ) (r : Bool) → r ≡ pointwise eqb (take n xs) (take n ys) → r ≡ same_as (part 0 (0 + n) xs) (part 0 (0 + n) ys)
fronts n xs ys r e = rw (part_front n xs, part_front n ys) (said-same _ _ r e)

-- and of all of them
wholes : (n : ℕ) (xs ys : List ℕ) (r : Bool) → length xs ≡ n → length ys ≡ n → r ≡ pointwise eqb xs ys → r ≡ same_as (part 0 (0 + n) xs) (part 0 (0 + n) ys)
wholes n xs ys r l k e = fronts n xs ys r (rw (take_all n xs (omega arith), take_all n ys (omega arith)) e)

module _ (x y : List ℕ) (i j : ℕ) where
  pub judge_not : (i ≡ j → ⊥) → Differ ≡ judged x y i j
  unfolding judged pick
  judge_not h = cc (ne_eqb i j h)

  module _ (k : i ≡ j) (r : Bool) where
    module _ (h : i ≤ length x) (e : r ≡ pointwise eqb (take i x) (take i y)) where
      pub judge_same : r ≡ true → Same ≡ judged x y i j
      unfolding judged pick
      judge_same v = cc (fronts i x y r e, eq-eqb i j k, le-leb i (length x) h)

      pub judge_other : r ≡ false → Differ ≡ judged x y i j
      unfolding judged pick
      judge_other v = cc (fronts i x y r e, eq-eqb i j k, le-leb i (length x) h)

    module _ (l : length x ≡ length y) (h : length x < i) (e : r ≡ pointwise eqb x y) where
      pub judge_more : r ≡ true → More ≡ judged x y i j
      unfolding judged pick
      judge_more v = cc (wholes (length x) x y r refl (sym l) e, eq-eqb i j k, lt-leb i (length x) h)

      pub judge_unlike : r ≡ false → Differ ≡ judged x y i j
      unfolding judged pick
      judge_unlike v = cc (wholes (length x) x y r refl (sym l) e, eq-eqb i j k, lt-leb i (length x) h)

pub ruleset judging = (rules, judge_not, judge_same, judge_other, judge_more, judge_unlike)

-- ---- look
window_seen : (x x1 y y1 xs ys : List ℕ) (i j : ℕ) (r : Verdict) → length x ≡ length y → Laid x (length x) 0 xs i x1 → Laid y (length y) 0 ys j y1
    → r ≡ judged x1 y1 i j → Seen r (length x) xs ys
unfolding judged Seen
window_seen x x1 y y1 xs ys i j r l c d e = subst (λ (v : Verdict). Seen v (length x) xs ys) (sym e)
    (by_pick P (eqb i j)
    (λ k. let k = eqb-true i j k in by_pick P (leb i (length x1))
    (λ h. let h : i ≤ length x = omega (arith, leb-true i (length x1) h, kept) in by_pick P (same_as (part 0 (0 + i) x1) (part 0 (0 + i) y1))
    (λ v. win_ended x y xs ys i j l c.after d.after k true h (sym v ∙ z i i refl))
    (λ v. win_ended x y xs ys i j l c.after d.after k false h (sym v ∙ z i i refl)))
    (λ h. let h : length x < i = omega (arith, leb-false i (length x1) h, kept) in by_pick P (same_as (part 0 (0 + length x1) x1) (part 0 (0 + length x1) y1))
    (λ v. ((longer x y xs ys i j l c.after d.after k h).0, sym (win_split x y xs ys i j l c.after d.after k true (length x) refl h (sym v ∙ z (length x1) (length x) kept))))
    (λ v. win_split x y xs ys i j l c.after d.after k false (length x) refl h (sym v ∙ z (length x1) (length x) kept))))
    (λ k. win_differ x y xs ys i j l c.after d.after (eqb-false i j k)))
  where
    P : Verdict → Type 0
    P v = Seen v (length x) xs ys

    kept : length x1 ≡ length x
    kept = ap length c.bytes ∙ length_lay x (length x) 0 xs

    z : (m m' : ℕ) → m ≡ m' → same_as (part 0 (0 + m) x1) (part 0 (0 + m) y1) ≡ same_as (part 0 (0 + m') (lay x (length x) 0 xs)) (part 0 (0 + m') (lay y (length y) 0 ys))
    z m m' q = cc (c.bytes, d.bytes)

pub look_done : (s w : List ℕ) (m : Map) (wd left a b n : ℕ) (x x1 y y1 : List ℕ) (i j l : ℕ) (r : Verdict) → length x ≡ l → length y ≡ l → Fills s w m wd left a n x i x1 → Fills s w m wd left b n y j y1
    → r ≡ judged x1 y1 i j → Looks s w m wd left a b n l r
look_done s w m wd left a b n x x1 y y1 i j l r o q f g e = record {
  looks = λ four four' d d' u v h k. rw (← o) (window_seen x x1 y y1 (drop n (print u)) (drop n (print v)) i j r (o ∙ sym q) (f.fills four d u h) (g.fills four' d' v k) e);
}

pub ruleset seeing = (rules, look_done)
