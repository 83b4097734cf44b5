-- Laws of `is_named_leaf`, `is_uncopied` and `run_end`: commands that are copied, one behind another, are so many steps of the definition. Assumes nothing.
use mathlib.Core.Path.{◌≡◌, refl, sym, ap, ◌∙◌, subst}
use mathlib.Core.Bool.{Bool, true, false, false≢true}
use mathlib.Core.List.{List, ◌++◌, append-nil, append_assoc}
use Prim.Native.Nat.{ℕ, ◌+◌, ◌-◌, ◌^◌, ◌<◌, ◌≤◌}
use native.Mathlib.Omega.{arith}
use mir.Syntax.{w64}
use mir.Val.{Fits}
use borrow.Author.Rules.{rules}
use borrow.Author.Tests.{eqb-true, eqb-false, ltb-false, leb-true, lt-ltb, le-ltb, le-leb, lt-leb}
use lib.Dec.{eqb, leb, ltb}
use lib.ListN.{length, get_or}
use Rattle.octets.specs.Working.Choice.{pick}
use Rattle.octets.specs.Plain.Runs.{part}
use Rattle.octets.proofs.PartLaws.{part_none}
use Rattle.octets.proofs.LiesLaws.{lies_append, lies_part, part_lies}
use Rattle.parse_tree.specs.Plain.Tree.{Text}
use Rattle.parse_tree.specs.Working.Nodes.{code_size, node_at, size_read, long_of}
use Rattle.texts.specs.Table.{texts}
use Rattle.replacing.specs.Runs.{copy_step, step_on, steps}
use Rattle.replacing.proofs.Going.{run, steps_append}
use Rattle.expander.specs.declared.Ground.{Ground}
use Rattle.expander.specs.Ground.{size_in, stage_in, same_at, text_in, Grounded}
use Rattle.expander.specs.Replace.{expanded_code}
use Rattle.expander.specs.Stage.{macro_at, name_code, uncopied_at, RoomFor, Walks, SomeWalk, Copies}
use Rattle.expander.proofs.KnownCodes.{whole_long}
use Rattle.expander.proofs.StageReads.{stage_length}
use Rattle.expander.proofs.StageCode.{stage_room, stage_byte, stage_in_lem}
use Rattle.expander.proofs.StageMeets.{macro_stage, meets_whole, meets_copy}

-- ---- `is_named_leaf`
pub name_low : (c : ℕ) → c < 32 → false ≡ name_code c
unfolding name_code pick
name_low c l = cc (lt-ltb c 32 l)

pub name_within : (c : ℕ) → 32 ≤ c → c ≤ 36 → true ≡ name_code c
unfolding name_code pick
name_within c l h = cc (le-ltb c 32 l, le-leb c 36 h)

pub name_high : (c : ℕ) → 36 < c → false ≡ name_code c
unfolding name_code pick
name_high c l = cc (le-ltb c 32 (omega arith), lt-leb c 36 l)

pub ruleset naming = (rules, name_low, name_within, name_high)

name_between : (c : ℕ) → name_code c ≡ true → (32 ≤ c) × (c ≤ 36)
unfolding name_code pick
name_between c h = go (ltb c 32) refl h
  where
    go : (b : Bool) → ltb c 32 ≡ b → pick b false (leb c 36) ≡ true → (32 ≤ c) × (c ≤ 36)
    go true e i = absurd (false≢true i)
    go false e i = (ltb-false c 32 e, leb-true c 36 i)

-- what is so of the five codes is so of a name's code
name_each : (P : ℕ → Type 0) → P 32 → P 33 → P 34 → P 35 → P 36 → (c : ℕ) → name_code c ≡ true → P c
name_each P a b d e f c h = go (eqb c 32) (eqb c 33) (eqb c 34) (eqb c 35) refl refl refl refl
  where
    at : (k : ℕ) → P k → eqb c k ≡ true → P c
    at k x q = subst P (sym (eqb-true c k q)) x

    go : (i j k l : Bool) → eqb c 32 ≡ i → eqb c 33 ≡ j → eqb c 34 ≡ k → eqb c 35 ≡ l → P c
    go true j k l x y z u = at 32 a x
    go false true k l x y z u = at 33 b y
    go false false true l x y z u = at 34 d z
    go false false false true x y z u = at 35 e u
    go false false false false x y z u =
        let v : 36 ≡ c = omega (arith, name_between c h, eqb-false c 32 x, eqb-false c 33 y, eqb-false c 34 z, eqb-false c 35 u) in
        subst P v f

name_long : (wd c : ℕ) → name_code c ≡ true → code_size wd c ≡ 9 + wd
unfolding code_size long_of pick
name_long wd = name_each (λ (c : ℕ). code_size wd c ≡ 9 + wd) refl refl refl refl refl

name_plain : (c : ℕ) → name_code c ≡ true → expanded_code c ≡ false
unfolding expanded_code pick
name_plain = name_each (λ (c : ℕ). expanded_code c ≡ false) refl refl refl refl refl

name_no_macro : (wd : ℕ) (w : List ℕ) (p c : ℕ) → name_code c ≡ true → macro_at wd w p c ≡ false
unfolding macro_at pick
name_no_macro wd w p = name_each (λ (c : ℕ). macro_at wd w p c ≡ false) refl refl refl refl refl

-- ---- `is_uncopied`
module _ (wd : ℕ) (w : List ℕ) (at c : ℕ) where
  pub left_key : (b : Bool) → b ≡ expanded_code c → b ≡ true → true ≡ uncopied_at wd w at c
  unfolding uncopied_at pick
  left_key b e f = cc

  pub left_room : (b : Bool) → b ≡ expanded_code c → b ≡ false → RoomFor wd w at c → at + code_size wd c ≤ length w
  left_room b e f r = r.room (sym e ∙ f)

  pub left_other : (b : Bool) → b ≡ expanded_code c → b ≡ false → (m : Bool) → m ≡ macro_at wd w at c → m ≡ uncopied_at wd w at c
  unfolding uncopied_at pick
  left_other b e f m h = cc

  left_not : uncopied_at wd w at c ≡ false → (expanded_code c ≡ false) × (macro_at wd w at c ≡ false)
  unfolding uncopied_at pick
  left_not h = go (expanded_code c) refl h
    where
      go : (b : Bool) → expanded_code c ≡ b → pick b true (macro_at wd w at c) ≡ false → (expanded_code c ≡ false) × (macro_at wd w at c ≡ false)
      go true e i = absurd (false≢true (sym i))
      go false e i = (e, i)

pub ruleset leaving = (rules, left_key, left_room, left_other)

-- ---- commands that are copied
part_join : (t : List ℕ) (a b e : ℕ) → a ≤ b → b ≤ e → e ≤ length t → part a b t ++ part b e t ≡ part a e t
part_join t a b e h k l = sym (lies_part t a e (part a b t ++ part b e t) (lies_append (part_lies t a b h (omega arith)) (part_lies t b e k l)))

module _ (s w : List ℕ) (g : Ground) (G : Grounded s w g) where
  abbrev t : List ℕ
  t = stage_in w g

  abbrev ts : List Text
  ts = texts s w g.m

  abbrev wd : ℕ
  wd = g.width.bytes

  copies_none : (p : ℕ) → p ≤ size_in g → Copies s w g p p
  unfolding steps
  copies_none p h = record {
    turns = 0;
    few = omega arith;
    upto = h;
    is = λ o x. ap (λ (l : List ℕ). run p l x) (sym (ap (λ (u : List ℕ). o ++ u) (part_none p p t (omega arith)) ∙ append-nil o));
    walks = λ n k z. (n, z);
  }

  pub copies_then : (p q e : ℕ) → Copies s w g p q → Copies s w g q e → Copies s w g p e
  copies_then p q e A B = record {
    turns = A.turns + B.turns;
    few = omega (arith, A.few, B.few);
    upto = B.upto;
    is = λ o x.
        steps_append (same_at s w g) (text_in s w g) wd g.m.count t A.turns B.turns (run p o x)
        ∙ ap (steps (same_at s w g) (text_in s w g) wd g.m.count t B.turns) (A.is o x)
        ∙ B.is (o ++ part p q t) x
        ∙ ap (λ (l : List ℕ). run e l x)
        (append_assoc o (part p q t) (part q e t)
        ∙ ap (λ (u : List ℕ). o ++ u) (part_join t p q e (omega (arith, A.few)) (omega (arith, B.few)) (omega (arith, B.upto, stage_length s w g G))));
    walks = λ n k z. let y = A.walks n k z in B.walks y.0 k y.1;
  }

  -- a command that is copied is a step
  pub copies_one : (q : ℕ) → q < size_in g → expanded_code (get_or t q 0) ≡ false → macro_at wd t q (get_or t q 0) ≡ false → (n k : ℕ) → Walks wd t ts n k q → Copies s w g q (q + size_read wd (node_at wd t q))
  unfolding steps step_on copy_step pick
  copies_one q l e d n k h =
      let j = stage_in_lem s w g G q l in
      let c = meets_copy wd t ts n k q h j e d in
      let i : leb (length t) q ≡ false = lt-leb (length t) q j in
      record {
        turns = 1;
        few = omega (arith, c.whole.some);
        upto = omega (arith, c.whole.inside, stage_length s w g G);
        is = λ o x. rw (i, c.macro, c.copied) refl;
        walks = λ n' k' z. let y = meets_copy wd t ts n' k' q z j e d in (y.turns, y.next);
      }

-- ---- `run_end`
pub run_start : (s w : List ℕ) (g : Ground) (p : ℕ) → Grounded s w g → SomeWalk s w g p → Copies s w g p p
run_start s w g p G S = copies_none s w g G p S.upto

module _ (s w : List ℕ) (g : Ground) (p q : ℕ) (G : Grounded s w g) (S : SomeWalk s w g p) (C : Copies s w g p q) (l : q < g.end - g.from) where
  below : q < size_in g
  unfolding size_in
  below = l

  pub run_room : g.from + q < length w
  run_room = stage_room s w g G q below

  pub run_fits : length w < 2 ^ 64 → Fits w64 (g.from + q)
  run_fits k = record { fits = omega (arith, run_room) }

  here : (m : ℕ) × Walks g.width.bytes (stage_in w g) (texts s w g.m) m S.left q
  here = C.walks S.turns S.left S.walks

  module _ (c : ℕ) (d : c ≡ get_or w (g.from + q) 0) where
    code_is : get_or (stage_in w g) q 0 ≡ c
    code_is = stage_byte s w g G q below ∙ sym d

    module _ (e : expanded_code c ≡ false) where
      unexpanded : expanded_code (get_or (stage_in w g) q 0) ≡ false
      unexpanded = ap expanded_code code_is ∙ e

      long_is : code_size g.width.bytes c ≡ size_read g.width.bytes (node_at g.width.bytes (stage_in w g) q)
      long_is =
          ap (code_size g.width.bytes) (sym code_is)
          ∙ sym (whole_long g.width.bytes (stage_in w g) q (meets_whole g.width.bytes (stage_in w g) (texts s w g.m) here.0 S.left q here.1 (stage_in_lem s w g G q below) unexpanded))

      inside : q + code_size g.width.bytes c ≤ size_in g
      inside =
          let z = meets_whole g.width.bytes (stage_in w g) (texts s w g.m) here.0 S.left q here.1 (stage_in_lem s w g G q below) unexpanded in
          omega (arith, z.inside, long_is, stage_length s w g G)

      -- a command that is copied
      module _ (m : macro_at g.width.bytes w (g.from + q) c ≡ false) where
        next : Copies s w g p (q + code_size g.width.bytes c)
        next =
            let z = ap (macro_at g.width.bytes (stage_in w g) q) code_is ∙ sym (macro_stage s w g G q c inside) ∙ m in
            copies_then s w g G p q (q + code_size g.width.bytes c) C
            (subst (λ (j : ℕ). Copies s w g q (q + j)) (sym long_is) (copies_one s w g G q below unexpanded z here.0 S.left here.1))

        fits : length w < 2 ^ 64 → Fits w64 (q + code_size g.width.bytes c)
        unfolding size_in
        fits k = record { fits = omega (arith, inside, G.inside) }

    -- a name
    module _ (b : Bool) (e : b ≡ name_code c) (f : b ≡ true) where
      named : name_code c ≡ true
      named = sym e ∙ f

      long : code_size g.width.bytes c ≡ 9 + g.width.bytes
      long = name_long g.width.bytes c named

      pub run_name_fits : length w < 2 ^ 64 → Fits w64 (q + (9 + g.width.bytes))
      run_name_fits k = subst (λ (j : ℕ). Fits w64 (q + j)) long (fits (name_plain c named) (name_no_macro g.width.bytes w (g.from + q) c named) k)

      pub run_name : Copies s w g p (q + (9 + g.width.bytes))
      run_name = subst (λ (j : ℕ). Copies s w g p (q + j)) long (next (name_plain c named) (name_no_macro g.width.bytes w (g.from + q) c named))

    -- any other
    pub run_left_room : RoomFor g.width.bytes w (g.from + q) c
    unfolding size_in
    run_left_room = record { room = λ e. omega (arith, inside e, G.inside, G.ordered) }

    module _ (b : Bool) (e : b ≡ uncopied_at g.width.bytes w (g.from + q) c) (f : b ≡ false) (n : ℕ) (k : n ≡ code_size g.width.bytes c) where
      copied : (expanded_code c ≡ false) × (macro_at g.width.bytes w (g.from + q) c ≡ false)
      copied = left_not g.width.bytes w (g.from + q) c (sym e ∙ f)

      pub run_next_fits : length w < 2 ^ 64 → Fits w64 (q + n)
      run_next_fits i = subst (λ (j : ℕ). Fits w64 (q + j)) (sym k) (fits copied.0 copied.1 i)

      pub run_next : Copies s w g p (q + n)
      run_next = subst (λ (j : ℕ). Copies s w g p (q + j)) (sym k) (next copied.0 copied.1)

pub ruleset going = (rules, run_start, run_room, run_fits, run_name_fits, run_name, run_left_room, run_next_fits, run_next)
