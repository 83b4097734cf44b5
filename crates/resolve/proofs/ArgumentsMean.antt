-- The arguments of an item are marked in their cells if no two are equal; and the marks taken away leave work as it was. Assumes nothing.
use mathlib.Core.Path.{◌≡◌, refl, sym, ap, ◌∙◌}
use mathlib.Core.Bool.{Bool, true, false, ◌&&◌, ◌||◌, not, false≢true, and_assoc, or-false}
use mathlib.Core.List.{List, [], ◌∷◌, ◌++◌}
use Prim.Native.Nat.{ℕ, ◌+◌, ◌*◌, ◌%◌, ◌<◌, ◌≤◌}
use native.Mathlib.Omega.{arith}
use borrow.Author.Tests.{le-leb, lt-leb, leb-false}
use lib.Dec.{leb}
use lib.ListN.{length, get_or}
use Rattle.octets.specs.Working.Choice.{pick}
use Rattle.octets.specs.Plain.Numbers.{le_at, le}
use Rattle.octets.specs.Plain.Runs.{Lies, same_as}
use Rattle.octets.specs.Working.Stores.{store}
use Rattle.octets.proofs.NumbersLaws.{length-le}
use Rattle.octets.proofs.SameLaws.{same_as-eq, eq_same_as, same_as-sym}
use Rattle.octets.proofs.LiesLaws.{lies_split, lies_first, le_read}
use Rattle.parse_tree.specs.Plain.Tree.{Text}
use Rattle.parse_tree.specs.Plain.Texts.{has, number, distinct, is_name}
use Rattle.parse_tree.specs.Plain.WriteTape.{bytes_of_each}
use Rattle.parse_tree.specs.Working.Nodes.{node_bytes}
use Rattle.parse_tree.specs.Working.Encode.{argument_bytes}
use Rattle.parse_tree.specs.Working.Within.{Each, Uses}
use Rattle.parse_tree.proofs.TextLaws.{number-below, text_number}
use Rattle.texts.specs.declared.Map.{Map}
use Rattle.resolve.specs.Cells.{Room, known_at, define_at}
use Rattle.resolve.specs.Items.{Marking, marked, twice, marks_out, unmarks_out}
use Rattle.resolve.specs.Whole.{Apart}
use Rattle.resolve.proofs.CellsLaws.{part_apart, known_same, known_other, known_off, length_define, define_store, define_past, define_over, define_known, Cellwise, cellwise_same, cellwise_then, define_cellwise, Sound, off_lies}

-- ---- the marks go from the front, each against those before it
unfoldable apart : List Text → List Text → Bool
apart qs [] = true
apart qs (x ∷ xs) = not (has x qs) && apart (x ∷ qs) xs

-- none is among others
unfoldable free : List Text → List Text → Bool
free qs [] = true
free qs (x ∷ xs) = not (has x qs) && free qs xs

free_more : (p : Text) (qs xs : List Text) → free (p ∷ qs) xs ≡ (free qs xs && not (has p xs))
unfolding free has
free_more p qs [] = refl
free_more p qs (x ∷ xs) = cc (free_more p qs xs, same_as-sym p x, go (same_as x p) (has x qs) (free qs xs) (has p xs))
  where
    go : (u a f h : Bool) → (not (elim u [ true ↦ true | false ↦ a ]) && (f && not h)) ≡ ((not a && f) && not (elim u [ true ↦ true | false ↦ h ]))
    go true true f h = refl
    go true false true h = refl
    go true false false h = refl
    go false true f h = refl
    go false false true h = refl
    go false false false h = refl

apart_is : (qs xs : List Text) → apart qs xs ≡ (free qs xs && distinct xs)
unfolding apart free distinct
apart_is qs [] = refl
apart_is qs (x ∷ xs) = cc (apart_is (x ∷ qs) xs, free_more x qs xs, and_assoc (free qs xs) (not (has x xs)) (distinct xs), and_assoc (not (has x qs)) (free qs xs) (not (has x xs) && distinct xs))

free_none : (xs : List Text) → free [] xs ≡ true
unfolding free has
free_none [] = refl
free_none (x ∷ xs) = free_none xs

apart_distinct : (xs : List Text) → apart [] xs ≡ distinct xs
apart_distinct xs = rw (apart_is [] xs, free_none xs) refl

-- a text that is marked belongs to those before
has-shift : (x p : Text) (qs xs : List Text) → (has x (p ∷ qs) || has x xs) ≡ (has x qs || has x (p ∷ xs))
unfolding has
has-shift x p qs xs = go (same_as p x) (has x qs)
  where
    go : (u a : Bool) → ((elim u [ true ↦ true | false ↦ a ]) || has x xs) ≡ (a || (elim u [ true ↦ true | false ↦ has x xs ]))
    go true true = refl
    go true false = refl
    go false a = refl

modulo : (k : ℕ) → k < 512 → (k + 512) % 512 ≡ k
modulo k h = omega arith

-- ---- by the texts: xs are the arguments
module _ (m : Map) (ts : List Text) where
  abbrev kn : List ℕ → Text → ℕ
  kn w x = known_at m w (number ts x)

  unfoldable pub marks_for : List Text → List ℕ → Marking
  marks_for [] w = marked w
  marks_for (x ∷ xs) w = pick (leb 512 (kn w x)) twice (marks_for xs (define_at m w (number ts x) (kn w x + 512)))

  unfoldable pub unmarks_for : List Text → List ℕ → List ℕ
  unmarks_for [] w = w
  unmarks_for (x ∷ xs) w = unmarks_for xs (define_at m w (number ts x) (kn w x % 512))

  -- ---- as they are read from work
  module _ (four : Bool) (wd : ℕ) where
    argument-read : (w : List ℕ) (a e : ℕ) (x : Text) (ys : List ℕ) → Uses four wd ts is_name x → Lies w a (argument_bytes wd ts x ++ ys) e → (le_at wd w (a + 1) ≡ number ts x) × Lies w (a + (1 + wd)) ys e
    unfolding argument_bytes node_bytes
    argument-read w a e x ys u l =
        let s = lies_split w a e (argument_bytes wd ts x) ys l in
        let f = lies_first w a 17 (le wd (number ts x)) (a + length (argument_bytes wd ts x)) s.0 in
        let z : a + length (argument_bytes wd ts x) ≡ a + (1 + wd) = omega (arith, f.2.end, length-le wd (number ts x)) in
        (le_read wd w (a + 1) (number ts x) _ u.1 f.2, rw (← z) s.1)

    pub marks_are : (xs : List Text) → Each (Uses four wd ts is_name) xs → (w : List ℕ) (a e : ℕ) → Apart a e m.base (m.base + 24 * m.count) → e ≤ length w
        → Lies w a (bytes_of_each (argument_bytes wd ts) xs) e → marks_out m wd (length xs) w a ≡ marks_for xs w
    unfolding marks_out marks_for bytes_of_each
    marks_are [] u w a e o r l = refl
    marks_are (x ∷ xs) u w a e o r l =
        let q = argument-read w a e x (bytes_of_each (argument_bytes wd ts) xs) u.0 l in
        let v = define_at m w (number ts x) (kn w x + 512) in
        let c = define_cellwise m w (number ts x) (kn w x + 512) in
        let b : Apart (a + (1 + wd)) e m.base (m.base + 24 * m.count) = part_apart a e m.base (m.base + 24 * m.count) (a + (1 + wd)) e (omega arith) (omega arith) o in
        rw q.0 (ap (pick (leb 512 (kn w x)) twice) (marks_are xs u.1 v (a + (1 + wd)) e b (omega (arith, c.long)) (off_lies m w v c (a + (1 + wd)) e (bytes_of_each (argument_bytes wd ts) xs) b r q.1)))

    pub unmarks_are : (xs : List Text) → Each (Uses four wd ts is_name) xs → (w : List ℕ) (a e : ℕ) → Apart a e m.base (m.base + 24 * m.count) → e ≤ length w
        → Lies w a (bytes_of_each (argument_bytes wd ts) xs) e → unmarks_out m wd (length xs) w a ≡ unmarks_for xs w
    unfolding unmarks_out unmarks_for bytes_of_each
    unmarks_are [] u w a e o r l = refl
    unmarks_are (x ∷ xs) u w a e o r l =
        let q = argument-read w a e x (bytes_of_each (argument_bytes wd ts) xs) u.0 l in
        let v = define_at m w (number ts x) (kn w x % 512) in
        let c = define_cellwise m w (number ts x) (kn w x % 512) in
        let b : Apart (a + (1 + wd)) e m.base (m.base + 24 * m.count) = part_apart a e m.base (m.base + 24 * m.count) (a + (1 + wd)) e (omega arith) (omega arith) o in
        ap (λ (k : ℕ). unmarks_out m wd (length xs) (define_at m w k (known_at m w k % 512)) (a + (1 + wd))) q.0
        ∙ unmarks_are xs u.1 v (a + (1 + wd)) e b (omega (arith, c.long)) (off_lies m w v c (a + (1 + wd)) e (bytes_of_each (argument_bytes wd ts) xs) b r q.1)

  -- ---- what is known then: H says which texts are marked
  abbrev pub Marked : List ℕ → (Text → Bool) → List ℕ → Type 0
  Marked w H w' = (x : Text) → has x ts ≡ true → kn w' x ≡ pick (H x) (kn w x + 512) (kn w x)

  module _ (c : m.count ≡ length ts) (w : List ℕ) (room : Room m (length w)) (small : (x : Text) → kn w x < 512) where
    mark_one : (v : List ℕ) → length v ≡ length w → (qs : List Text) → Marked w (λ y. has y qs) v → (x : Text) → has x ts ≡ true → has x qs ≡ false
        → Marked w (λ y. has y (x ∷ qs)) (define_at m v (number ts x) (kn v x + 512))
    unfolding has pick
    mark_one v n qs h x t f y u = go (same_as x y) refl
      where
        was : kn v x ≡ kn w x
        was = h x t ∙ ap (λ (b : Bool). pick b (kn w x + 512) (kn w x)) f

        go : (b : Bool) → same_as x y ≡ b → kn (define_at m v (number ts x) (kn v x + 512)) y ≡ pick (elim b [ true ↦ true | false ↦ has y qs ]) (kn w y + 512) (kn w y)
        go true e =
            let z = same_as-eq x y e in
            rw (← z) (known_same m v (omega arith) (number ts x) (kn v x + 512) (omega (arith, number-below ts x t)) (omega (arith, was, small x)) ∙ ap (λ (k : ℕ). k + 512) was)
        go false e = known_other m v (number ts x) (kn v x + 512) (number ts y) (λ q. differ q) ∙ h y u
          where
            differ : number ts y ≡ number ts x → ⊥
            differ q =
                let z : y ≡ x = sym (text_number ts y u) ∙ ap (λ (k : ℕ). get_or ts k []) q ∙ text_number ts x t in
                false≢true (sym e ∙ eq_same_as x y (sym z))

    -- what marking comes to
    abbrev pub Marks : Bool → (Text → Bool) → Marking → Type 0
    Marks true H r = (v : List ℕ) × (r ≡ marked v) × (length v ≡ length w) × Marked w H v
    Marks false H r = r ≡ twice

    marks_as : (b : Bool) (H K : Text → Bool) (r : Marking) → ((x : Text) → H x ≡ K x) → Marks b H r → Marks b K r
    marks_as true H K r q (v, p, n, h) = (v, p, n, λ x u. h x u ∙ ap (λ (b : Bool). pick b (kn w x + 512) (kn w x)) (q x))
    marks_as false H K r q h = h

    marks_from : (xs : List Text) → Each (λ x. has x ts ≡ true) xs → (v : List ℕ) → length v ≡ length w → (qs : List Text) → Marked w (λ y. has y qs) v
        → Marks (apart qs xs) (λ y. has y qs || has y xs) (marks_for xs v)
    unfolding apart marks_for has pick
    marks_from [] u v n qs h = (v, refl, n, λ x t. h x t ∙ ap (λ (b : Bool). pick b (kn w x + 512) (kn w x)) (sym (or-false (has x qs))))
    marks_from (x ∷ xs) u v n qs h =
        go (has x qs) refl (λ f. marks_from xs u.1 (define_at m v (number ts x) (kn v x + 512)) (length_define m v (number ts x) (kn v x + 512) ∙ n) (x ∷ qs) (mark_one v n qs h x u.0 f))
      where
        go : (b : Bool) → has x qs ≡ b
            → (has x qs ≡ false → Marks (apart (x ∷ qs) xs) (λ y. has y (x ∷ qs) || has y xs) (marks_for xs (define_at m v (number ts x) (kn v x + 512))))
            → Marks (not b && apart (x ∷ qs) xs) (λ y. has y qs || has y (x ∷ xs)) (pick (leb 512 (kn v x)) twice (marks_for xs (define_at m v (number ts x) (kn v x + 512))))
        go true e i =
            let z : kn v x ≡ kn w x + 512 = h x u.0 ∙ ap (λ (b : Bool). pick b (kn w x + 512) (kn w x)) e in
            rw (le-leb 512 (kn v x) (omega arith)) refl
        go false e i =
            let z : kn v x ≡ kn w x = h x u.0 ∙ ap (λ (b : Bool). pick b (kn w x + 512) (kn w x)) e in
            rw (lt-leb 512 (kn v x) (omega (arith, small x))) (marks_as (apart (x ∷ qs) xs) (λ y. has y (x ∷ qs) || has y xs) (λ y. has y qs || has y (x ∷ xs)) _ (λ y. has-shift y x qs xs) (i e))

    pub marks_mean : (xs : List Text) → Each (λ x. has x ts ≡ true) xs → Marks (distinct xs) (λ y. has y xs) (marks_for xs w)
    unfolding has pick
    marks_mean xs u = rw (← apart_distinct xs) (marks_from xs u w refl [] (λ x t. refl))

  pub marks_cellwise : (xs : List Text) (w v : List ℕ) → marks_for xs w ≡ marked v → Cellwise m w v
  unfolding marks_for pick
  marks_cellwise [] w v e = let z : w ≡ v = cc in rw (← z) (cellwise_same m w)
  marks_cellwise (x ∷ xs) w v e = go (leb 512 (kn w x)) (λ q. marks_cellwise xs (define_at m w (number ts x) (kn w x + 512)) v q) e
    where
      go : (b : Bool) → (marks_for xs (define_at m w (number ts x) (kn w x + 512)) ≡ marked v → Cellwise m (define_at m w (number ts x) (kn w x + 512)) v)
          → pick b twice (marks_for xs (define_at m w (number ts x) (kn w x + 512))) ≡ marked v → Cellwise m w v
      go true f e = absurd (let y : ◌≡◌ {A = ℕ} 0 1 = cc in omega arith)
      go false f e = cellwise_then m w (define_at m w (number ts x) (kn w x + 512)) v (define_cellwise m w (number ts x) (kn w x + 512)) (f e)

  -- ---- the marks taken away
  -- a cell that is marked already may as well be written afterwards
  marks_past : (xs : List Text) (w v : List ℕ) (k d : ℕ) → 512 ≤ known_at m w k → marks_for xs w ≡ marked v → (known_at m v k ≡ known_at m w k) × (marks_for xs (define_at m w k d) ≡ marked (define_at m v k d))
  unfolding marks_for pick
  marks_past [] w v k d h e = let z : w ≡ v = cc in rw (← z) (refl, refl)
  marks_past (x ∷ xs) w v k d h e =
      go (leb 512 (kn w x)) refl (λ q. marks_past xs (define_at m w (number ts x) (kn w x + 512)) v k d q) e
    where
      go : (b : Bool) → leb 512 (kn w x) ≡ b
          → (512 ≤ known_at m (define_at m w (number ts x) (kn w x + 512)) k → marks_for xs (define_at m w (number ts x) (kn w x + 512)) ≡ marked v
          → (known_at m v k ≡ known_at m (define_at m w (number ts x) (kn w x + 512)) k) × (marks_for xs (define_at m (define_at m w (number ts x) (kn w x + 512)) k d) ≡ marked (define_at m v k d)))
          → pick b twice (marks_for xs (define_at m w (number ts x) (kn w x + 512))) ≡ marked v
          → (known_at m v k ≡ known_at m w k) × (pick (leb 512 (kn (define_at m w k d) x)) twice (marks_for xs (define_at m (define_at m w k d) (number ts x) (kn (define_at m w k d) x + 512))) ≡ marked (define_at m v k d))
      go true q f e = absurd (let y : ◌≡◌ {A = ℕ} 0 1 = cc in omega arith)
      go false q f e =
          let n : number ts x ≡ k → ⊥ = λ z. absurd (let y = leb-false 512 (kn w x) q in let o = ap (known_at m w) z in omega arith) in
          let a : k ≡ number ts x → ⊥ = λ z. n (sym z) in
          let b = known_other m w (number ts x) (kn w x + 512) k a in
          let c = known_other m w k d (number ts x) n in
          let i = f (omega arith) e in
          (i.0 ∙ b, rw (c, q, define_past m w k d (number ts x) (kn w x + 512) n) i.1)

  pub marks_gone : (xs : List Text) → Each (λ x. number ts x < m.count) xs → (w v : List ℕ) → Sound m w → Room m (length w) → marks_for xs w ≡ marked v → unmarks_for xs v ≡ w
  unfolding marks_for unmarks_for pick
  marks_gone [] u w v b r e = cc
  marks_gone (x ∷ xs) u w v b r e = go (leb 512 (kn w x)) refl (λ y q. marks_gone xs u.1 w y b r q) e
    where
      go : (t : Bool) → leb 512 (kn w x) ≡ t → ((y : List ℕ) → marks_for xs w ≡ marked y → unmarks_for xs y ≡ w) → pick t twice (marks_for xs (define_at m w (number ts x) (kn w x + 512))) ≡ marked v
          → unmarks_for xs (define_at m v (number ts x) (kn v x % 512)) ≡ w
      go true q f e = absurd (let y : ◌≡◌ {A = ℕ} 0 1 = cc in omega arith)
      go false q f e =
          let l = leb-false 512 (kn w x) q in
          let s = known_same m w r (number ts x) (kn w x + 512) u.0 (omega arith) in
          let p = marks_past xs (define_at m w (number ts x) (kn w x + 512)) v (number ts x) (kn w x) (omega arith) e in
          let o : define_at m (define_at m w (number ts x) (kn w x + 512)) (number ts x) (kn w x) ≡ w = define_over m w (number ts x) (kn w x + 512) (kn w x) ∙ define_known m w b (number ts x) u.0 in
          let z : kn v x % 512 ≡ kn w x = ap (λ (k : ℕ). k % 512) (p.0 ∙ s) ∙ modulo (kn w x) l in
          rw z (f (define_at m v (number ts x) (kn w x)) (ap (marks_for xs) (sym o) ∙ p.1))

  -- bytes off the records that are written between are none of it
  pub unmarks_store : (xs : List Text) (w : List ℕ) (at : ℕ) (vs : List ℕ) → Apart at (at + length vs) m.base (m.base + 24 * m.count) → unmarks_for xs (store w at vs) ≡ store (unmarks_for xs w) at vs
  unfolding unmarks_for
  unmarks_store [] w at vs h = refl
  unmarks_store (x ∷ xs) w at vs h =
      let z = known_off m w at vs (number ts x) h in
      rw (z, define_store m w at vs (number ts x) (kn w x % 512) h) (unmarks_store xs (define_at m w (number ts x) (kn w x % 512)) at vs h)
