-- The ways out of put_before and settle_name. Assumes nothing.
use mathlib.Core.Path.{◌≡◌, refl, sym, ap, ◌∙◌}
use mathlib.Core.Logic.{◌⊎◌, inl, inr}
use mathlib.Core.List.{List, [], ◌++◌}
use Prim.Native.Nat.{ℕ, ◌+◌, ◌-◌, ◌*◌, ◌/◌, ◌%◌, ◌^◌, ◌<◌, ◌≤◌}
use native.Mathlib.Omega.{arith}
use borrow.Author.Rules.{rules}
use mir.Syntax.{w64}
use mir.Val.{Fits}
use lib.ListN.{length, get_or, length-append}
use Rattle.octets.specs.Plain.Numbers.{le}
use Rattle.octets.specs.Plain.Runs.{Lies}
use Rattle.octets.specs.Working.Stores.{store}
use Rattle.octets.proofs.NumbersLaws.{length-le}
use Rattle.octets.proofs.LiesLaws.{lies_to}
use Rattle.octets.proofs.StoreLaws.{lies_store, length_store, le_at-same, get_d_store_before, get_d_store_after}
use Rattle.parse_tree.specs.Plain.Tree.{Text}
use Rattle.parse_tree.specs.Working.Encode.{atom_bytes}
use Rattle.parse_tree.proofs.ReadBack.{atom_size}
use Rattle.resolve.proofs.CellsLaws.{lies_agree}
use Rattle.texts.specs.declared.Map.{Map}
use Rattle.texts.specs.Fields.{mark_at}
use Rattle.texts.specs.Atoms.{atom_end, atom_text}
use Rattle.texts.specs.Texts.{marked_text}
use Rattle.texts.specs.declared.mark.Stand.{Stand}
use Rattle.texts.specs.Marks.{stand_of}
use Rattle.texts.proofs.MarkLaws.{stand_tape}
use Rattle.texts.specs.Table.{texts}
use Rattle.texts.proofs.TextCode.{tape_whole, tape_text, texts-at}
use Rattle.grades.specs.Grade.{level_digits}
use Rattle.precedence.specs.Names.{named_text}
use Rattle.levels.specs.Fresh.{PutsNames}
use Rattle.levels.specs.Settle.{base_of, NameReady, NamePut, NameSettled}
use Rattle.levels.proofs.FreshCode.{name_is, name_size}

-- ---- put_before: b and v are the base and the level that the mark x tells, a is where the mark y tells that the base's command stands
module _ (s w : List ℕ) (m : Map) (k q : ℕ) (h : NameReady s w m k q) (x b : ℕ) (e : x ≡ mark_at w m.base k) (p : b ≡ x / 4294967296) (y : ℕ) (f : y ≡ mark_at w m.base b) (a : ℕ) (j : a ≡ y / 4) where
  base_same : b ≡ base_of w m k
  base_same = p ∙ ap (λ (i : ℕ). i / 4294967296) e

  mark_is : y ≡ mark_at w m.base (base_of w m k)
  mark_is = f ∙ ap (mark_at w m.base) base_same

  stands : Stand.Tape a ≡ stand_of (length s) y
  stands = ap Stand.Tape j ∙ sym (stand_tape (length s) y (rw mark_is h.on_tape))

  pub settle_record : m.base + 24 * b + 24 ≤ length w
  settle_record = omega (arith, base_same, h.base, h.new, h.behind, h.inside)

  pub settle_atom : atom_end s a ≤ length s
  settle_atom = tape_whole s w y (Stand.Tape a) a stands refl (rw mark_is h.whole)

  module _ (v : ℕ) (r : v ≡ x % 4294967296) (t : Text) (g : t ≡ atom_text s a) where
    base_is : t ≡ get_or (texts s w m) b []
    unfolding texts
    base_is = tape_text s w y (Stand.Tape a) a stands t refl g ∙ ap (marked_text s w) f ∙ sym (texts-at s w m.base m.count b (rw base_same h.base))

    abbrev digits : List ℕ
    digits = level_digits v

    size : length (named_text s w m k) ≡ length t + length digits
    size = name_size s w m k h.new x b v e p r t base_is

    pub settle_short : length t + length digits < 65536
    settle_short = omega (arith, size, h.short)

    module _ (z : ℕ) (i : z ≡ length (t ++ digits)) where
      whole_size : length (named_text s w m k) ≡ z
      whole_size = size ∙ sym (i ∙ length-append t digits)

      pub settle_fits : Fits w64 (z + 3)
      settle_fits = record { fits = omega (arith, whole_size, h.short) }

      pub settle_sub : z + 3 ≤ q
      settle_sub = omega (arith, whole_size, h.behind)

      module _ (to : ℕ) (u : to ≡ q - (z + 3)) where
        pub settle_room : to + 3 + (length t + length digits) ≤ length w
        settle_room = omega (arith, size, whole_size, h.behind, h.inside)

        pub put_done : (n : ℕ) (w1 : List ℕ) → PutsNames w to (atom_bytes 2 (t ++ digits)) n w1 → NamePut w (named_text s w m k) q to w1
        put_done n w1 f = record {
          bytes = f.bytes ∙ ap (λ (u : Text). store w to (atom_bytes 2 u)) (sym (name_is s w m k h.new x b v e p r t base_is));
          place = omega (arith, whole_size, h.behind);
        }

pub ruleset before_putting = (rules, settle_record, settle_atom, settle_short, settle_fits, settle_sub, settle_room, put_done)

-- ---- settle_name
module _ (s w : List ℕ) (m : Map) (k q : ℕ) (h : NameReady s w m k q) (to : ℕ) (w1 : List ℕ) (p : NamePut w (named_text s w m k) q to w1) where
  abbrev t : Text
  t = named_text s w m k

  low : m.base + 24 * k + 24 ≤ to
  low = omega (arith, p.place, h.behind)

  put_long : length w1 ≡ length w
  put_long = ap length p.bytes ∙ length_store w to (atom_bytes 2 t)

  record_inside : m.base + 24 * k + 8 ≤ length w1
  record_inside = omega (arith, put_long, low, p.place, h.inside)

  bytes_end : to + length (atom_bytes 2 t) ≡ q
  bytes_end = omega (arith, p.place, atom_size 2 t)

  put_lies : Lies w1 to (atom_bytes 2 t) q
  put_lies = rw p.bytes (lies_to bytes_end (lies_store w to (atom_bytes 2 t) (omega (arith, bytes_end, h.inside))))

  beside : (i : ℕ) → (i < to) ⊎ (q ≤ i) → get_or w1 i 0 ≡ get_or w i 0
  beside i (inl d) = ap (λ (l : List ℕ). get_or l i 0) p.bytes ∙ get_d_store_before w to (atom_bytes 2 t) i d
  beside i (inr d) = ap (λ (l : List ℕ). get_or l i 0) p.bytes ∙ get_d_store_after w to (atom_bytes 2 t) i (omega (arith, bytes_end))

  module _ (small : length w < 2 ^ 64) (w2 : List ℕ) (o : w2 ≡ store w1 (m.base + 24 * k) (le 8 (to - 4 * length s))) where
    told_long : length w2 ≡ length w1
    told_long = ap length o ∙ length_store w1 (m.base + 24 * k) (le 8 (to - 4 * length s))

    mark_fits : to - 4 * length s < 2 ^ 64
    mark_fits = omega (arith, small, p.place, h.inside)

    before : (i : ℕ) → i < m.base + 24 * k → get_or w2 i 0 ≡ get_or w1 i 0
    before i d = ap (λ (l : List ℕ). get_or l i 0) o ∙ get_d_store_before w1 (m.base + 24 * k) (le 8 (to - 4 * length s)) i d

    after : (i : ℕ) → m.base + 24 * k + 8 ≤ i → get_or w2 i 0 ≡ get_or w1 i 0
    after i d = ap (λ (l : List ℕ). get_or l i 0) o ∙ get_d_store_after w1 (m.base + 24 * k) (le 8 (to - 4 * length s)) i (omega (arith, length-le 8 (to - 4 * length s)))

    told_others : (i : ℕ) → (i < m.base + 24 * k) ⊎ ((m.base + 24 * k + 8 ≤ i) × (i < to)) ⊎ (q ≤ i) → get_or w2 i 0 ≡ get_or w i 0
    told_others i (inl d) = before i d ∙ beside i (inl (omega (arith, low)))
    told_others i (inr (inl d)) = after i d.0 ∙ beside i (inl d.1)
    told_others i (inr (inr d)) = after i (omega (arith, low, p.place)) ∙ beside i (inr d)

    settle-done : NameSettled s w m k t q to w2
    unfolding mark_at
    settle-done = record {
      long = told_long ∙ put_long;
      place = p.place;
      lies = lies_agree w1 w2 to q (atom_bytes 2 t) told_long (omega (arith, put_long, h.inside)) (λ i a b. after i (omega (arith, low))) put_lies;
      mark = rw o (le_at-same 8 w1 (m.base + 24 * k) (to - 4 * length s) record_inside mark_fits);
      others = told_others;
    }

  pub settle_room_lem : 4 * length s ≤ to
  settle_room_lem = omega (arith, p.place, h.far)

  pub settle_marked : length w < 2 ^ 64 → (x : ℕ) (w2 : List ℕ) → x ≡ to - 4 * length s → w2 ≡ store w1 (m.base + 24 * k) (le 8 x) → NameSettled s w m k t q to w2
  settle_marked small x w2 d o = settle-done small w2 (rw d at o)

  pub settle_mark_room : m.base + 24 * k + 24 ≤ length w1
  settle_mark_room = omega (arith, put_long, low, p.place, h.inside)

pub ruleset name_settling = (rules, settle_room_lem, settle_mark_room, settle_marked)
