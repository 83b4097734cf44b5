-- The flat run of `same_shape` over the commands of two symbols, and the quick look of `same_print`. Assumes nothing.
use mathlib.Core.Path.{◌≡◌, refl, sym, ap, ◌∙◌}
use mathlib.Core.Bool.{Bool, true, false, false≢true}
use mathlib.Core.List.{List, append-nil}
use Prim.Native.Nat.{ℕ, ◌+◌, ◌-◌, ◌*◌, ◌^◌, ◌<◌, ◌≤◌}
use native.Mathlib.Omega.{arith}
use borrow.Author.Rules.{rules}
use lib.Dec.{eqb}
use lib.ListN.{length, get_or}
use lib.Pointwise.{pointwise}
use mir.Syntax.{w64}
use mir.Val.{Fits}
use Rattle.octets.specs.Plain.Runs.{Lies, part, same_as}
use Rattle.octets.proofs.LiesLaws.{lies_split}
use Rattle.octets.proofs.SameLaws.{same_as-eq, eq_same_as, said-same}
use Rattle.parse_tree.specs.Plain.Tree.{Sym, Syms, nil, cons, count}
use Rattle.parse_tree.specs.Plain.Display.{print}
use Rattle.parse_tree.specs.Working.Encode.{sym_bytes, syms_bytes}
use Rattle.parse_tree.specs.Working.Within.{SymWithin, SymsWithin}
use Rattle.parse_tree.specs.Working.Nodes.{long_of}
use Rattle.parse_tree.specs.Working.Nested.{inside_by}
use Rattle.laws.specs.Flat.{children, joined}
use Rattle.laws.proofs.Flat.{SymsFits, sym_fits_lem, inside-count, step}
use Rattle.laws.proofs.Shape.{Alike}
use Rattle.texts.specs.declared.Map.{Map}
use Rattle.texts.specs.Table.{texts}
use Rattle.grades.proofs.SkipMean.{count-few}
use Rattle.grades.specs.Grading.{Worded}
use Rattle.display.specs.Standing.{SymStands, SomeSym}
use Rattle.display.specs.Follow.{before_by, behind_by, between_by}
use Rattle.display.specs.Shape.{OperandsAlike, SomeTwo, PrintsAlike}
use Rattle.display.specs.Window.{SamePrints}
use Rattle.display.proofs.StandsLaws.{Reads, before_text, between_text, behind_text, standing}
use Rattle.display.proofs.ShapeLaws.{Same, part_same, before_same, behind_same, inside-same, parts_alike, alike_split}

-- ---- `same_operands`
pub operands_done : (w : List ℕ) (p q n : ℕ) (r : Bool) → 9 ≤ n → r ≡ pointwise eqb (part (p + 9) (p + n) w) (part (q + 9) (q + n) w) → OperandsAlike w p q n r
operands_done w p q n r h e =
    let a : p + n ≡ p + 9 + (n - 9) = omega arith in
    let b : q + n ≡ q + 9 + (n - 9) = omega arith in
    let z : r ≡ same_as (part (p + 9) (p + 9 + (n - 9)) w) (part (q + 9) (q + 9 + (n - 9)) w) = rw (sym a, sym b) (said-same _ _ r e) in
    record { says = λ t. part_same w p q 9 n (same_as-eq _ _ (sym z ∙ t)) }

pub ruleset operands = (rules, operands_done)

-- ---- symbols to come at one place
module _ (s w : List ℕ) (m : Map) (wd : ℕ) (four : Bool) where
  -- each within its own levels
  abbrev pub Each : Syms → Type 0
  Each nil = Unit {0}
  Each (cons x xs) = ((left : ℕ) × SymWithin four wd (texts s w m) x left) × Each xs

  each_within : (xs : Syms) (left : ℕ) → SymsWithin four wd (texts s w m) xs left → Each xs
  each_within nil left h = tt
  each_within (cons x xs) left h = ((left, h.0), each_within xs left h.1)

  each-joined : (xs ys : Syms) → Each xs → Each ys → Each (joined xs ys)
  unfolding joined
  each-joined nil ys h k = k
  each-joined (cons x xs) ys h k = (h.0, each-joined xs ys h.1 k)

  each_fits : (xs : Syms) → Each xs → SymsFits wd (texts s w m) xs
  each_fits nil h = tt
  each_fits (cons x xs) h = (sym_fits_lem wd (texts s w m) four x h.0.0 h.0.1, each_fits xs h.1)

  -- k symbols xs from p up to e
  pub record Coming (p k e : ℕ) (xs : Syms) : Type 0 where
    pub within : Each xs
    pub lies : Lies w p (syms_bytes wd (texts s w m) xs) e
    pub many : count xs ≡ k

  pub coming_first : (left at e : ℕ) (x : Sym) → SymStands s w m wd four left at e x → Coming at 1 e (cons x nil)
  unfolding syms_bytes count
  coming_first left at e x h =
      let z = append-nil (sym_bytes wd (texts s w m) x) in
      record { within = ((left, h.within), tt); lies = rw z h.lies; many = refl }

  -- the first command, and what comes then
  pub record Next (p k e : ℕ) (x : Sym) (xs : Syms) : Type 0 where
    pub reads : Reads wd (texts s w m) w p x
    pub large : 9 ≤ long_of wd (get_or w p 0)
    pub room : p + long_of wd (get_or w p 0) ≤ length w
    pub few : k - 1 + inside_by wd w p (get_or w p 0) ≤ length w
    pub next : Coming (p + long_of wd (get_or w p 0)) (k - 1 + inside_by wd w p (get_or w p 0)) e (joined (children x) xs)

  pub coming_next : (p k e : ℕ) (x : Sym) (xs : Syms) → Coming p k e (cons x xs) → Next p k e x xs
  unfolding syms_bytes count
  coming_next p k e x xs h =
      let l = lies_split w p e (sym_bytes wd (texts s w m) x) (syms_bytes wd (texts s w m) xs) h.lies in
      let st = standing s w m wd four h.within.0.0 p _ x (record { within = h.within.0.1; lies = l.0 }) in
      let t = step wd (texts s w m) w p e x xs (each_fits (cons x xs) h.within) h.lies in
      let z = st.reads.long in
      let n = count-few wd (texts s w m) (joined (children x) xs) in
      let c : count (joined (children x) xs) ≡ k - 1 + inside_by wd w p (get_or w p 0) = omega (arith, t.many, inside-count wd (texts s w m) x, st.reads.held, h.many) in
      record {
        reads = st.reads;
        large = omega (arith, t.large, z);
        room = st.room;
        few = omega (arith, n, c, t.lies.end, t.below);
        next = record {
          within = each-joined (children x) xs (each_within (children x) (h.within.0.0 - 1) st.inside.within) h.within.1;
          lies = rw z t.lies;
          many = c;
        };
      }

-- ---- at two places
module _ (w : List ℕ) (wd : ℕ) where
  -- what is left of x and y, of which the one stands up to e, the other up to e'
  pub record Rest (s : List ℕ) (m : Map) (four four' : Bool) (e e' : ℕ) (x y : Sym) (p q k : ℕ) : Type 0 where
    pub xs : Syms
    pub ys : Syms
    pub first : Coming s w m wd four p k e xs
    pub second : Coming s w m wd four' q k e' ys
    pub carry : Alike xs ys → print x ≡ print y

  -- both heads, and what comes then
  pub record Turn (s : List ℕ) (m : Map) (four four' : Bool) (e e' : ℕ) (x y : Sym) (p q k : ℕ) : Type 0 where
    pub u : Sym
    pub v : Sym
    pub us : Syms
    pub vs : Syms
    pub first : Next s w m wd four p k e u us
    pub second : Next s w m wd four' q k e' v vs
    pub carry : print u ≡ print v → Alike us vs → print x ≡ print y

  module _ (s : List ℕ) (m : Map) (four four' : Bool) (e e' : ℕ) (x y : Sym) (p q k : ℕ) where
    rest_turn : 0 < k → Rest s m four four' e e' x y p q k → Turn s m four four' e e' x y p q k
    unfolding count
    rest_turn l h = go h.xs h.ys h.first h.second h.carry
      where
        go : (xs ys : Syms) → Coming s w m wd four p k e xs → Coming s w m wd four' q k e' ys → (Alike xs ys → print x ≡ print y) → Turn s m four four' e e' x y p q k
        go nil ys a b c = absurd (omega (arith, a.many))
        go (cons u us) nil a b c = absurd (omega (arith, b.many))
        go (cons u us) (cons v vs) a b c =
            record { u = u; v = v; us = us; vs = vs; first = coming_next s w m wd four p k e u us a; second = coming_next s w m wd four' q k e' v vs b; carry = λ i j. c (i, j) }

    rest_none : k ≤ 0 → Rest s m four four' e e' x y p q k → print x ≡ print y
    unfolding count
    rest_none l h = go h.xs h.ys h.first h.second h.carry
      where
        go : (xs ys : Syms) → Coming s w m wd four p k e xs → Coming s w m wd four' q k e' ys → (Alike xs ys → print x ≡ print y) → print x ≡ print y
        go nil nil a b c = c tt
        go nil (cons v vs) a b c = absurd (omega (arith, b.many))
        go (cons u us) ys a b c = absurd (omega (arith, a.many))

    rest_next : Turn s m four four' e e' x y p q k → get_or w q 0 ≡ get_or w p 0 → Same w p q 9 (long_of wd (get_or w p 0))
        → Rest s m four four' e e' x y (p + long_of wd (get_or w p 0)) (q + long_of wd (get_or w p 0)) (k - 1 + inside_by wd w p (get_or w p 0))
    rest_next t c o =
        let f = t.first.reads in
        let g = t.second.reads in
        let i : inside_by wd w q (get_or w q 0) ≡ inside_by wd w p (get_or w p 0) = ap (inside_by wd w q) c ∙ sym (inside-same wd (texts s w m) w p q (get_or w p 0) o) in
        let a : before_text t.u ≡ before_text t.v =
        sym f.before ∙ before_same wd (texts s w m) w p q (get_or w p 0) o f.high ∙ ap (before_by wd (texts s w m) w q) (sym c) ∙ g.before in
        let b : between_text t.u ≡ between_text t.v = sym (f.between 0) ∙ ap (λ (z : ℕ). between_by z 1) (sym c) ∙ g.between 0 in
        let d : behind_text t.u ≡ behind_text t.v = sym f.behind ∙ behind_same wd (texts s w m) w p q (get_or w p 0) o ∙ ap (behind_by w q) (sym c) ∙ g.behind in
        let n : count (children t.u) ≡ count (children t.v) = sym f.held ∙ sym i ∙ g.held in
        let r : Coming s w m wd four' (q + long_of wd (get_or w p 0)) (k - 1 + inside_by wd w p (get_or w p 0)) e' (joined (children t.v) t.vs) = rw (i, c) at t.second.next in
        record {
          xs = joined (children t.u) t.us;
          ys = joined (children t.v) t.vs;
          first = t.first.next;
          second = r;
          carry = λ h. let z = alike_split (children t.u) (children t.v) t.us t.vs n h in t.carry (parts_alike t.u t.v a b d z.0) z.1;
        }

  -- k symbols are to come at p, those of a, and at q, those of b
  pub record Running (a b p q k : ℕ) : Type 0 where
    pub two : SomeTwo w wd a b
    pub narrow : 2 ≤ wd
    pub wide : wd ≤ 3
    pub each : (s : List ℕ) (m : Map) (left : ℕ) (four four' : Bool) (e e' : ℕ) (x y : Sym) → SymStands s w m wd four left a e x → SymStands s w m wd four' left b e' y → Rest s m four four' e e' x y p q k

  pub running_start : (a b : ℕ) → SomeTwo w wd a b → Running a b a b 1
  running_start a b t = record {
    two = t;
    narrow = t.readable.narrow;
    wide = t.readable.wide;
    each = λ s m left four four' e e' x y i j. record {
      xs = cons x nil;
      ys = cons y nil;
      first = coming_first s w m wd four left a e x i;
      second = coming_first s w m wd four' left b e' y j;
      carry = λ h. h.0;
    };
  }

  pub running_no : (a b : ℕ) → PrintsAlike w wd a b false
  running_no a b = record { says = λ z. absurd (false≢true z) }

  module _ (a b p q k : ℕ) (R : Running a b p q k) where
    pub running_done : k ≤ 0 → PrintsAlike w wd a b true
    running_done l = record { says = λ z s m left four four' e e' x y i j. rest_none s m four four' e e' x y p q k l (R.each s m left four four' e e' x y i j) }

    module _ (l : 0 < k) where
      abbrev T : Turn R.two.tape R.two.map R.two.first.four R.two.second.four R.two.first.end R.two.second.end R.two.first.symbol R.two.second.symbol p q k
      T =
          let t = R.two in
          rest_turn t.tape t.map t.first.four t.second.four t.first.end t.second.end t.first.symbol t.second.symbol p q k l
          (R.each t.tape t.map t.left t.first.four t.second.four t.first.end t.second.end t.first.symbol t.second.symbol t.first.stands t.second.stands)

      pub running_within : p < length w
      running_within = omega (arith, T.first.room, T.first.large)

      pub running_within_q : q < length w
      running_within_q = omega (arith, T.second.room, T.second.large)

      pub running_inside : p + long_of wd (get_or w p 0) ≤ length w
      running_inside = T.first.room

      pub running_place : (d : ℕ) → d ≤ 17 → length w * 1 < 2 ^ 63 → Fits w64 (p + d)
      running_place d i f = record { fits = omega (arith, running_within) }

      pub running_place_q : (d : ℕ) → d ≤ 17 → length w * 1 < 2 ^ 63 → Fits w64 (q + d)
      running_place_q d i f = record { fits = omega (arith, running_within_q) }

      pub running_fits : (n : ℕ) → n ≡ inside_by wd w p (get_or w p 0) → length w * 1 < 2 ^ 63 → Fits w64 (k - 1 + n)
      running_fits n i f = record { fits = omega (arith, i, T.first.few) }

      module _ (n : ℕ) (j : n ≡ long_of wd (get_or w p 0)) where
        pub running_long : 9 ≤ n
        running_long = omega (arith, j, T.first.large)

        pub running_falls : length w - (p + n) < length w - p
        running_falls = omega (arith, j, T.first.room, T.first.large)

        pub running_room : p + n ≤ length w
        running_room = omega (arith, j, T.first.room, T.first.large)

        module _ (c : get_or w q 0 ≡ get_or w p 0) where
          pub running_room_q : q + n ≤ length w
          running_room_q = let z = ap (long_of wd) c in omega (arith, j, T.second.room, T.second.large, z)

          pub running_next : (r : Bool) (i : ℕ) → OperandsAlike w p q n r → r ≡ true → i ≡ inside_by wd w p (get_or w p 0) → Running a b (p + n) (q + n) (k - 1 + i)
          running_next r i o t u =
              rw (j, u) (record {
                two = R.two;
                narrow = R.narrow;
                wide = R.wide;
                each = λ s m left four four' e e' x y y1 y2. rest_next s m four four' e e' x y p q k (rest_turn s m four four' e e' x y p q k l (R.each s m left four four' e e' x y y1 y2)) c (rw j at (o.says t));
              })

pub ruleset running = (rules, running_start, running_no, running_done, running_within, running_within_q, running_inside, running_place, running_place_q, running_fits, running_falls)

-- ---- the quick look of `same_print`
module _ (s w : List ℕ) (m : Map) (wd left a b : ℕ) where
  pub looking_two : Worded s w m → 2 ≤ wd → wd ≤ 3 → SomeSym s w m wd left a → SomeSym s w m wd left b → SomeTwo w wd a b
  looking_two r u v f g = record { tape = s; map = m; left = left; readable = record { worded = r; narrow = u; wide = v }; first = f; second = g }

  pub looking_done : (r : Bool) → PrintsAlike w wd a b r → r ≡ true → SamePrints s w m wd left a b true
  looking_done r h t = record { says = λ four four' e e' x y i j. sym (eq_same_as (print x) (print y) (h.says t s m left four four' e e' x y i j)) }

pub ruleset looking = (rules, looking_two, looking_done)
