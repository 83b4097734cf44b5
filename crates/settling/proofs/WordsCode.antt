-- The ways out of the functions that put parts of printed forms. Assumes nothing.
use mathlib.Core.Path.{◌≡◌, refl, sym, ap, ◌∙◌}
use mathlib.Core.Bool.{Bool, true, false, cond}
use mathlib.Core.Logic.{inl, inr}
use mathlib.Core.List.{List, [], ◌∷◌, ◌++◌}
use Prim.Native.Nat.{ℕ, ◌+◌, ◌*◌, ◌^◌, ◌<◌, ◌≤◌}
use native.Mathlib.Omega.{arith}
use borrow.Author.Rules.{rules}
use borrow.Author.Tests.{ne_eqb}
use mir.Val.{Fits}
use mir.Syntax.{w64}
use lib.ListN.{length, get_or, get_or-eq_default}
use Rattle.std.specs.Borrow.{Bor}
use Rattle.octets.specs.Working.Choice.{pick}
use Rattle.octets.specs.Plain.Numbers.{le_at}
use Rattle.octets.specs.Plain.Runs.{part}
use Rattle.parse_tree.specs.Plain.Tree.{Text}
use Rattle.parse_tree.specs.Plain.Display.{escaped}
use Rattle.texts.specs.declared.Map.{Map}
use Rattle.texts.specs.declared.mark.Stand.{Stand}
use Rattle.texts.specs.Marks.{stand_of}
use Rattle.texts.proofs.MarkLaws.{is_work}
use Rattle.texts.specs.Fields.{mark_at}
use Rattle.texts.specs.Atoms.{atom_end, atom_text}
use Rattle.texts.specs.Texts.{marked_text, Whole, Behind}
use Rattle.texts.specs.Table.{Above, texts}
use Rattle.texts.proofs.TextCode.{work_fits, tape_whole, work_whole, tape_text, work_text, length_texts, texts-at}
use Rattle.grades.specs.Grading.{Worded}
use Rattle.display.specs.Follow.{quoted_text, word_at, leaf_text, mark_text, label_text, name_text}
use Rattle.precedence.specs.Write.{Puts}
use Rattle.precedence.proofs.WriteLaws.{puts_none}
use Rattle.settling.specs.declared.Source.{Source}
use Rattle.settling.specs.Put.{source_text, in_work, Fixed, Marked, PlacedText}
use Rattle.settling.proofs.PutLaws.{puts_stop, then, puts_as}
use Rattle.settling.proofs.PutCode.{part_all}
use Rattle.settling.proofs.WordsLaws.{fixed_same, source_next, fixed_below}

not_here : false ≡ true → ⊥
not_here q = let n : ◌≡◌ {A = ℕ} 1 0 = ap (λ (b : Bool). cond b 0 1) q in absurd (omega arith)

-- ---- mark_source: r is where the mark's command stands
module _ (s w : List ℕ) (x : ℕ) (g : Whole s w x) where
  pub mark_fits : length w < 2 ^ 64 → 4 * length s ≤ x → x + 4 * length s < 2 ^ 64
  mark_fits l h = work_fits s w x g l h

  module _ (r : Stand) (a : ℕ) (p : r ≡ stand_of (length s) x) where
    module _ (e : r ≡ Stand.Tape a) where
      pub tape_end : atom_end s a ≤ length s
      tape_end = tape_whole s w x r a p e g

      pub tape_marked : (b : Bor (List ℕ)) → b.now ≡ atom_text s a → Marked s w x (Source.Tape b)
      unfolding source_text Fixed
      tape_marked b q = record { text = tape_text s w x r a p b.now e q; fixed = tt; far = λ h. absurd (not_here h) }

    module _ (e : r ≡ Stand.Work a) where
      pub work_two : a + 1 + 2 ≤ length w
      unfolding atom_end
      work_two = omega (arith, work_whole s w x r a p e g)

      pub work_near : (k : ℕ) → k ≤ 3 → length w < 2 ^ 64 → Fits w64 (a + k)
      work_near k l f = record { fits = omega (arith, work_two) }

      module _ (m n : ℕ) (f : m ≡ le_at 2 w (a + 1)) (d : n ≡ m) where
        pub work_end : length w < 2 ^ 64 → Fits w64 (a + 3 + n)
        unfolding atom_end
        work_end l = record { fits = omega (arith, work_whole s w x r a p e g, d, f) }

        pub work_marked : Marked s w x (Source.Work (a + 3) (a + 3 + n))
        unfolding source_text Fixed pick atom_end atom_text
        work_marked =
            let z : n ≡ le_at 2 w (a + 1) = d ∙ f in
            let y = is_work (length s) x r a p e in
            let y0 = y.0 in
            let y1 = y.1 in
            record {
              text = ap (λ (k : ℕ). part (a + 3) (a + 3 + k) w) z ∙ work_text s w x r a p (atom_text w a) e refl;
              fixed = (omega arith, omega arith, omega (arith, work_whole s w x r a p e g, z));
              far = λ q. omega arith;
            }

pub ruleset marking = (rules, mark_fits, tape_end, tape_marked, work_two, work_near, work_end, work_marked)

-- ---- word_source
module _ (wd : ℕ) (s w : List ℕ) (m : Map) (at x k : ℕ) (j : x ≡ le_at wd w at) (q : k ≡ x) where
  some : word_at wd (texts s w m) w at ≡ get_or (texts s w m) k []
  unfolding word_at
  some = cc

  many : length (texts s w m) ≡ m.count
  unfolding texts
  many = length_texts s w m.base m.count

  pub word_beyond : (b : Bor (List ℕ)) → b.now ≡ [] → m.count ≤ k → PlacedText s w m (word_at wd (texts s w m) w at) (Source.Tape b)
  unfolding source_text Fixed
  word_beyond b e l = record {
    text = e ∙ sym (some ∙ get_or-eq_default (texts s w m) [] {n = k} (omega (arith, many)));
    fixed = λ z a. tt;
  }

  pub word_placed : (y : ℕ) (p : Source) → k < m.count → y ≡ mark_at w m.base k → Marked s w y p → PlacedText s w m (word_at wd (texts s w m) w at) p
  unfolding texts
  word_placed y p l e d = record {
    text = d.text ∙ ap (marked_text s w) e ∙ sym (texts-at s w m.base m.count k l) ∙ sym some;
    fixed = λ z a. fixed_below (length w) (y + 4 * length s) z p d.fixed (low z a);
  }
    where
      low : (z : ℕ) → Above s w m z → in_work p ≡ true → z ≤ y + 4 * length s
      low z a h = go (a.above k l)
        where
          go : Behind s z (mark_at w m.base k) → z ≤ y + 4 * length s
          go (inl i) = absurd (omega (arith, d.far h, e))
          go (inr i) = omega (arith, e)

pub word_whole : (s w : List ℕ) (m : Map) (k y : ℕ) → Worded s w m → k < m.count → y ≡ mark_at w m.base k → Whole s w y
word_whole s w m k y g h e = rw e (g.whole k h)

pub ruleset wording = (rules, word_beyond, word_placed, word_whole)

-- ---- put_text, put_escaped
module _ (w : List ℕ) (lim : ℕ) (p : Source) where
  module _ (a e : ℕ) (h : p ≡ Source.Work a e) (f : Fixed (length w) lim p) where
    here : (lim ≤ a) × (a ≤ e) × (e ≤ length w)
    unfolding Fixed
    here = rw h at f

    pub here_behind : lim ≤ a
    here_behind = here.0

    pub here_ordered : a ≤ e
    here_ordered = here.1

    pub here_inside : e ≤ length w
    here_inside = here.2

    pub here_text : (to r : ℕ) (w1 : List ℕ) → Puts w lim to (part a e w) r w1 → Puts w lim to (source_text w p) r w1
    unfolding source_text
    here_text to r w1 g = puts_as (sym (ap (source_text w) h)) g

    pub here_escaped : (to r : ℕ) (w1 : List ℕ) → Puts w lim to (escaped (part a e w) []) r w1 → Puts w lim to (escaped (source_text w p) []) r w1
    unfolding source_text
    here_escaped to r w1 g = puts_as (sym (ap (λ (q : Source). escaped (source_text w q) []) h)) g

  module _ (t : Bor (List ℕ)) (h : p ≡ Source.Tape t) where
    pub tape_put : (to r : ℕ) (w1 : List ℕ) → Puts w lim to t.now r w1 → Puts w lim to (source_text w p) r w1
    unfolding source_text
    tape_put to r w1 g = puts_as (sym (ap (source_text w) h)) g

    pub tape_escaped : (to r : ℕ) (w1 : List ℕ) → Puts w lim to (escaped (part 0 (length t.now) t.now) []) r w1 → Puts w lim to (escaped (source_text w p) []) r w1
    unfolding source_text
    tape_escaped to r w1 g = puts_as (ap (λ (x : Text). escaped x []) (part_all t.now) ∙ sym (ap (λ (q : Source). escaped (source_text w q) []) h)) g

pub ruleset standing = (rules, here_behind, here_ordered, here_inside)

-- ---- put_quoted
pub quoted_put : (w w1 w2 w3 : List ℕ) (lim to q z r : ℕ) (p : Source) → Fixed (length w) lim p → Puts w lim to (34 ∷ []) q w1 → Puts w1 lim q (escaped (source_text w1 p) []) z w2 → Puts w2 lim z (34 ∷ []) r w3
    → Puts w lim to (quoted_text (source_text w p)) r w3
unfolding quoted_text
quoted_put w w1 w2 w3 lim to q z r p f a b c = then a (then (puts_as (ap (λ (t : Text). escaped t []) (source_next w lim p f to (34 ∷ []) q w1 a)) b) c)

-- ---- put_open
pub open_put : (w w1 w2 : List ℕ) (lim to q r : ℕ) (p : Source) → Puts w lim to (source_text w p) q w1 → Puts w1 lim q (60 ∷ []) r w2 → Puts w lim to (source_text w p ++ (60 ∷ [])) r w2
open_put w w1 w2 lim to q r p a b = then a b

pub ruleset enclosing = (rules, puts_stop, fixed_same, quoted_put, open_put)

-- ---- put_regex, put_leaf
pub regex_put : (w w1 w2 w3 : List ℕ) (lim to q z r : ℕ) (p : Source) → Fixed (length w) lim p → Puts w lim to (114 ∷ 35 ∷ []) q w1
    → Puts w1 lim q (quoted_text (source_text w1 p)) z w2 → Puts w2 lim z (35 ∷ []) r w3 → Puts w lim to (114 ∷ 35 ∷ (quoted_text (source_text w p) ++ (35 ∷ []))) r w3
regex_put w w1 w2 w3 lim to q z r p f a b c = then a (then (puts_as (ap quoted_text (source_next w lim p f to (114 ∷ 35 ∷ []) q w1 a)) b) c)

module _ (w : List ℕ) (lim to r : ℕ) (p : Source) (c : ℕ) (w4 : List ℕ) where
  pub leaf_quoted : c ≡ 34 → Puts w lim to (quoted_text (source_text w p)) r w4 → Puts w lim to (leaf_text c (source_text w p)) r w4
  unfolding leaf_text pick
  leaf_quoted e a = rw e a

  pub leaf_regex : c ≡ 35 → Puts w lim to (114 ∷ 35 ∷ (quoted_text (source_text w p) ++ (35 ∷ []))) r w4 → Puts w lim to (leaf_text c (source_text w p)) r w4
  unfolding leaf_text pick
  leaf_regex e a = rw e a

  pub leaf_plain : (c ≡ 34 → ⊥) → (c ≡ 35 → ⊥) → Puts w lim to (source_text w p) r w4 → Puts w lim to (leaf_text c (source_text w p)) r w4
  unfolding leaf_text pick
  leaf_plain n m a = rw (ne_eqb c 34 n, ne_eqb c 35 m) a

pub ruleset leafing = (rules, puts_stop, fixed_same, regex_put, leaf_quoted, leaf_regex, leaf_plain)

-- ---- put_mark
module _ (w : List ℕ) (lim to r c : ℕ) (w2 : List ℕ) where
  pub mark_left : c ≡ 42 → Puts w lim to (64 ∷ 76 ∷ []) r w2 → Puts w lim to (mark_text c) r w2
  unfolding mark_text pick
  mark_left e a = rw e a

  pub mark_right : c ≡ 43 → Puts w lim to (64 ∷ 82 ∷ []) r w2 → Puts w lim to (mark_text c) r w2
  unfolding mark_text pick
  mark_right e a = rw e a

  pub mark_error : (c ≡ 42 → ⊥) → (c ≡ 43 → ⊥) → Puts w lim to (101 ∷ 114 ∷ 114 ∷ 111 ∷ 114 ∷ []) r w2 → Puts w lim to (mark_text c) r w2
  unfolding mark_text pick
  mark_error n m a = rw (ne_eqb c 42 n, ne_eqb c 43 m) a

pub ruleset leaving = (rules, mark_left, mark_right, mark_error)

-- ---- put_label, put_name
module _ (w : List ℕ) (b lim to : ℕ) where
  pub label_some : (r : ℕ) (w1 : List ℕ) → b ≡ 1 → Puts w lim to (109 ∷ 117 ∷ 116 ∷ 32 ∷ []) r w1 → Puts w lim to (label_text b) r w1
  unfolding label_text pick
  label_some r w1 e a = rw e a

  pub label_none : (b ≡ 1 → ⊥) → to ≤ lim + 1 → Puts w lim to (label_text b) to w
  unfolding label_text pick
  label_none n g = rw (ne_eqb b 1 n) (puts_none w lim to g)

  pub name_put : (p : Source) (y q r : ℕ) (w1 w2 w3 : List ℕ) → Fixed (length w) lim p → Puts w lim to (label_text b) y w1 → Puts w1 lim y (source_text w1 p) q w2 → Puts w2 lim q (58 ∷ []) r w3
      → Puts w lim to (name_text b (source_text w p)) r w3
  unfolding name_text
  name_put p y q r w1 w2 w3 f a c d = then a (then (puts_as (source_next w lim p f to (label_text b) y w1 a) c) d)

pub ruleset labelling = (rules, puts_stop, fixed_same, label_some, label_none, name_put)
