-- The text of a mark, and the texts of the records. Assumes nothing.
use mathlib.Core.Path.{◌≡◌, refl, sym, ap, ◌∙◌}
use mathlib.Core.Bool.{Bool, true, false}
use mathlib.Core.List.{List, [], ◌∷◌, ◌++◌}
use Prim.Native.Nat.{ℕ, zero, suc, ◌+◌, ◌*◌, ◌-◌, ◌/◌, ◌^◌, ◌<◌, ◌≤◌}
use native.Mathlib.Omega.{arith}
use borrow.Author.Rules.{rules}
use borrow.Author.Tests.{lt-ltb, le-ltb, ltb-true, ltb-false}
use lib.Dec.{ltb}
use lib.ListN.{length, get_or, take, drop, length-append, get_or-append}
use lib.Seq.{get_or-append_seam}
use mir.Syntax.{w64}
use mir.Val.{Fits}
use Rattle.octets.specs.Working.Choice.{pick}
use Rattle.octets.specs.Plain.Numbers.{le_at}
use Rattle.octets.specs.Plain.Runs.{part}
use Rattle.parse_tree.specs.Plain.Tree.{Text}
use Rattle.texts.specs.declared.Map.{Map}
use Rattle.texts.specs.declared.mark.Stand.{Stand}
use Rattle.texts.specs.Marks.{stand_of}
use Rattle.texts.proofs.MarkLaws.{is_tape, is_work}
use Rattle.texts.specs.Fields.{mark_at}
use Rattle.texts.specs.Atoms.{atom_end, atom_text}
use Rattle.texts.specs.Texts.{holder, place_at, marked_text, Whole, texts_of}
use Rattle.texts.specs.Table.{Table, texts}

-- ---- `atom`
module _ (s : List ℕ) (a : ℕ) (h : atom_end s a ≤ length s) where
  pub atom_start : a + 3 ≤ length s
  unfolding atom_end
  atom_start = omega arith

  pub atom_two : a + 1 + 2 ≤ length s
  unfolding atom_end
  atom_two = omega arith

  pub atom_end_lem : (m n : ℕ) → m ≡ le_at 2 s (a + 1) → n ≡ m → a + 3 + n ≤ length s
  unfolding atom_end
  atom_end_lem m n e p = omega arith

  module _ (l : length s < 2 ^ 64) where
    pub atom_fits_one : Fits w64 (a + 1)
    atom_fits_one = record { fits = omega (arith, atom_start) }

    pub atom_fits_three : Fits w64 (a + 3)
    atom_fits_three = record { fits = omega (arith, atom_start) }

    pub atom_fits_end : (m n : ℕ) → m ≡ le_at 2 s (a + 1) → n ≡ m → Fits w64 (a + 3 + n)
    atom_fits_end m n e p = record { fits = omega (arith, atom_end_lem m n e p) }

pub atom_done : (s : List ℕ) (a m n : ℕ) → m ≡ le_at 2 s (a + 1) → n ≡ m → take (a + 3 + n - (a + 3)) (drop (a + 3) s) ≡ atom_text s a
unfolding atom_text part atom_end
atom_done s a m n e p = let z : n ≡ le_at 2 s (a + 1) = p ∙ e in rw z

pub ruleset atoming = (rules, atom_start, atom_two, atom_end_lem, atom_fits_one, atom_fits_three, atom_fits_end, atom_done)

-- ---- `text_at`
module _ (s w : List ℕ) (x : ℕ) where
  pub on_tape : x < 4 * length s → holder s w x ≡ s
  unfolding holder pick
  on_tape h = cc (lt-ltb x (4 * length s) h)

  pub tape_place : x < 4 * length s → place_at s x ≡ x / 4
  unfolding place_at pick
  tape_place h = cc (lt-ltb x (4 * length s) h)

  pub in_work : 4 * length s ≤ x → holder s w x ≡ w
  unfolding holder pick
  in_work h = cc (le-ltb x (4 * length s) h)

  pub work_place : 4 * length s ≤ x → place_at s x ≡ x + 4 * length s
  unfolding place_at pick
  work_place h = cc (le-ltb x (4 * length s) h)

  -- a place in work is a number
  pub work_fits : Whole s w x → length w < 2 ^ 64 → 4 * length s ≤ x → x + 4 * length s < 2 ^ 64
  unfolding atom_end
  work_fits g l h = let z : atom_end w (x + 4 * length s) ≤ length w = rw (in_work h, work_place h) at g.inside in omega arith

  -- r is where its command stands
  module _ (r : Stand) (a : ℕ) (p : r ≡ stand_of (length s) x) where
    pub tape_whole : r ≡ Stand.Tape a → Whole s w x → atom_end s a ≤ length s
    tape_whole e g = let q = is_tape (length s) x r a p e in rw (q.1, ← on_tape q.0, ← tape_place q.0) g.inside

    pub work_whole : r ≡ Stand.Work a → Whole s w x → atom_end w a ≤ length w
    work_whole e g = let q = is_work (length s) x r a p e in rw (q.1, ← in_work q.0, ← work_place q.0) g.inside

    pub tape_text : (y : Text) → r ≡ Stand.Tape a → y ≡ atom_text s a → y ≡ marked_text s w x
    unfolding marked_text
    tape_text y e f = let q = is_tape (length s) x r a p e in rw (on_tape q.0, tape_place q.0) (rw q.1 at f)

    pub work_text : (y : Text) → r ≡ Stand.Work a → y ≡ atom_text w a → y ≡ marked_text s w x
    unfolding marked_text
    work_text y e f = let q = is_work (length s) x r a p e in rw (in_work q.0, work_place q.0) (rw q.1 at f)

pub ruleset addressing = (rules, tape_whole, work_whole, tape_text, work_text, work_fits)

-- ---- the texts of the records
pub length_texts : (s w : List ℕ) (b k : ℕ) → length (texts_of s w b k) ≡ k
unfolding texts_of
length_texts s w b zero = refl
length_texts s w b (suc k) = length-append (texts_of s w b k) (marked_text s w (mark_at w b k) ∷ []) ∙ (omega (arith, length_texts s w b k))

pub texts-at : (s w : List ℕ) (b n k : ℕ) → k < n → get_or (texts_of s w b n) k [] ≡ marked_text s w (mark_at w b k)
unfolding texts_of
texts-at s w b zero k h = absurd (omega arith)
texts-at s w b (suc n) k h = go (ltb k n) refl (texts-at s w b n k)
  where
    go : (t : Bool) → ltb k n ≡ t → (k < n → get_or (texts_of s w b n) k [] ≡ marked_text s w (mark_at w b k)) → get_or (texts_of s w b n ++ (marked_text s w (mark_at w b n) ∷ [])) k [] ≡ marked_text s w (mark_at w b k)
    go true e i = let l = ltb-true k n e in get_or-append (texts_of s w b n) (marked_text s w (mark_at w b n) ∷ []) [] k (omega (arith, length_texts s w b n)) ∙ i l
    go false e i =
        let l = ltb-false k n e in
        let z : k ≡ n = omega arith in
        let y : k ≡ length (texts_of s w b n) = z ∙ sym (length_texts s w b n) in
        ap (λ (j : ℕ). get_or (texts_of s w b n ++ (marked_text s w (mark_at w b n) ∷ [])) j []) y ∙ get_or-append_seam (texts_of s w b n) (marked_text s w (mark_at w b n)) [] []
        ∙ ap (λ (j : ℕ). marked_text s w (mark_at w b j)) (sym z)

-- ---- `text`
module _ (s w : List ℕ) (m : Map) (k x : ℕ) (g : Table s w m) (h : k < m.count) (e : x ≡ mark_at w m.base k) where
  pub text_whole : Whole s w x
  text_whole = rw e (g.whole k h)

  pub text_is_lem : (y : Text) → y ≡ marked_text s w x → y ≡ get_or (texts s w m) k []
  unfolding texts
  text_is_lem y p = p ∙ ap (marked_text s w) e ∙ sym (texts-at s w m.base m.count k h)

pub record_room : (s w : List ℕ) (m : Map) (k : ℕ) → Table s w m → k < m.count → m.base + 24 * k + 24 ≤ length w
record_room s w m k g h = omega (arith, g.room)

pub ruleset texting = (rules, record_room, text_whole, text_is_lem)
