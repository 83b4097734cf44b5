-- The table stays where neither its records nor its texts are written. Assumes nothing.
use mathlib.Core.Path.{◌≡◌, refl, sym, ap, ◌∙◌}
use mathlib.Core.Bool.{Bool, true, false}
use mathlib.Core.Logic.{◌⊎◌, inl, inr}
use mathlib.Core.List.{List}
use Prim.Native.Nat.{ℕ, zero, suc, ◌+◌, ◌*◌, ◌-◌, ◌<◌, ◌≤◌}
use native.Mathlib.Omega.{arith}
use borrow.Author.Tests.{ltb-true, ltb-false}
use lib.Dec.{ltb}
use lib.ListN.{length, get_or, drop}
use lib.Seq.{ext_get_or, get_or-take, get_or-drop}
use Rattle.octets.specs.Plain.Numbers.{le_at, le}
use Rattle.octets.specs.Plain.Runs.{part}
use Rattle.octets.specs.Working.Stores.{store}
use Rattle.octets.proofs.NumbersLaws.{length-le}
use Rattle.octets.proofs.PartLaws.{part_length}
use Rattle.octets.proofs.StoreLaws.{length_store, le_at-same, get_d_store_before, get_d_store_after}
use Rattle.texts.specs.declared.Map.{Map}
use Rattle.texts.specs.Hash.{hash_of}
use Rattle.texts.specs.Fields.{mark_at, hash_at, link_at, head_at, cell_at}
use Rattle.texts.specs.Atoms.{atom_end, atom_text}
use Rattle.texts.specs.Texts.{holder, place_at, marked_text, Whole, Behind, texts_of}
use Rattle.texts.specs.Table.{Table, Above, Agree, Stays, Celled, Recelled, texts, linked}
use Rattle.texts.proofs.FieldsCode.{Beside, beside}
use Rattle.texts.proofs.ChainCode.{chained_same}
use Rattle.texts.proofs.TextCode.{on_tape, in_work, work_place}

-- ---- numbers and parts, where the bytes are the same
pub le_at-agree : (n : ℕ) (w w1 : List ℕ) (a : ℕ) → ((i : ℕ) → a ≤ i → i < a + n → get_or w1 i 0 ≡ get_or w i 0) → le_at n w1 a ≡ le_at n w a
unfolding le_at
le_at-agree zero w w1 a f = refl
le_at-agree (suc n) w w1 a f = cc (f a (omega arith) (omega arith), le_at-agree n w w1 (a + 1) (λ i g h. f i (omega arith) (omega arith)))

part-agree_at : (w w1 : List ℕ) (a e : ℕ) → ((i : ℕ) → a ≤ i → i < e → get_or w1 i 0 ≡ get_or w i 0) → (i : ℕ) → i < e - a → get_or (part a e w1) i 0 ≡ get_or (part a e w) i 0
unfolding part
part-agree_at w w1 a e f i g = get_or-take (e - a) (drop a w1) i 0 g ∙ get_or-drop a w1 i 0 ∙ f (a + i) (omega arith) (omega arith) ∙ sym (get_or-take (e - a) (drop a w) i 0 g ∙ get_or-drop a w i 0)

pub part-agree : (w w1 : List ℕ) (a e : ℕ) → length w1 ≡ length w → e ≤ length w → ((i : ℕ) → a ≤ i → i < e → get_or w1 i 0 ≡ get_or w i 0) → part a e w1 ≡ part a e w
part-agree w w1 a e l h f = ext_get_or 0 (part a e w1) (part a e w) (part_length a e w1 (omega arith) ∙ sym (part_length a e w h)) (λ i g. part-agree_at w w1 a e f i (omega (arith, part_length a e w1 (omega arith))))

-- ---- a command 01 in work
module _ (w w1 : List ℕ) (p : ℕ) (l : length w1 ≡ length w) (h : atom_end w p ≤ length w) (f : (i : ℕ) → p ≤ i → i < length w → get_or w1 i 0 ≡ get_or w i 0) where
  pub end_agree : atom_end w1 p ≡ atom_end w p
  unfolding atom_end
  end_agree = ap (λ (n : ℕ). p + 3 + n) (le_at-agree 2 w w1 (p + 1) (λ i g k. f i (omega arith) (omega arith)))

  pub atom_agree : atom_text w1 p ≡ atom_text w p
  unfolding atom_text
  atom_agree = ap (λ (e : ℕ). part (p + 3) e w1) end_agree ∙ part-agree w w1 (p + 3) (atom_end w p) l h (λ i g k. f i (omega arith) (omega arith))

-- ---- the text of a mark
module _ (s w w1 : List ℕ) (z x : ℕ) (l : length w1 ≡ length w) (g : Whole s w x) (d : Behind s z x) (far : (i : ℕ) → z ≤ i → i < length w → get_or w1 i 0 ≡ get_or w i 0) where
  pub whole_agree : Whole s w1 x
  whole_agree = go (ltb x (4 * length s)) refl
    where
      go : (t : Bool) → ltb x (4 * length s) ≡ t → Whole s w1 x
      go true e = let h = ltb-true x (4 * length s) e in
          record { inside = rw (on_tape s w1 x h) (rw (on_tape s w x h) at g.inside) }
      go false e =
          let h = ltb-false x (4 * length s) e in
          let k : atom_end w (x + 4 * length s) ≤ length w = rw (in_work s w x h, work_place s w x h) at g.inside in
          let y : z ≤ x + 4 * length s = elim d [ inl q ↦ absurd (omega arith) | inr q ↦ q ] in
          let v : atom_end w1 (x + 4 * length s) ≤ length w1 = rw (end_agree w w1 (x + 4 * length s) l k (λ i a c. far i (omega arith) c), l) k in
          record { inside = rw (in_work s w1 x h, work_place s w1 x h) v }

  pub text_agree : marked_text s w1 x ≡ marked_text s w x
  unfolding marked_text
  text_agree = go (ltb x (4 * length s)) refl
    where
      go : (t : Bool) → ltb x (4 * length s) ≡ t → atom_text (holder s w1 x) (place_at s x) ≡ atom_text (holder s w x) (place_at s x)
      go true e = let h = ltb-true x (4 * length s) e in rw (on_tape s w1 x h, on_tape s w x h)
      go false e =
          let h = ltb-false x (4 * length s) e in
          let k : atom_end w (x + 4 * length s) ≤ length w = rw (in_work s w x h, work_place s w x h) at g.inside in
          let y : z ≤ x + 4 * length s = elim d [ inl q ↦ absurd (omega arith) | inr q ↦ q ] in
          rw (in_work s w1 x h, in_work s w x h, work_place s w x h) (atom_agree w w1 (x + 4 * length s) l k (λ i a c. far i (omega arith) c))

-- ---- the texts of n records whose marks are as they were
module _ (s w w1 : List ℕ) (b n z : ℕ) (whole : (i : ℕ) → i < n → Whole s w (mark_at w b i)) (above : (i : ℕ) → i < n → Behind s z (mark_at w b i)) (l : length w1 ≡ length w)
    (far : (i : ℕ) → z ≤ i → i < length w → get_or w1 i 0 ≡ get_or w i 0) (marks : (i : ℕ) → i < n → mark_at w1 b i ≡ mark_at w b i) where
  text_stays : (i : ℕ) → i < n → marked_text s w1 (mark_at w1 b i) ≡ marked_text s w (mark_at w b i)
  text_stays i h = ap (marked_text s w1) (marks i h) ∙ text_agree s w w1 z (mark_at w b i) l (whole i h) (above i h) far

  pub whole_stays : (i : ℕ) → i < n → Whole s w1 (mark_at w1 b i)
  whole_stays i h = rw (marks i h) (whole_agree s w w1 z (mark_at w b i) l (whole i h) (above i h) far)

  pub hash_stays : ((i : ℕ) → i < n → hash_at w b i ≡ hash_of (marked_text s w (mark_at w b i))) → ((i : ℕ) → i < n → hash_at w1 b i ≡ hash_at w b i)
      → (i : ℕ) → i < n → hash_at w1 b i ≡ hash_of (marked_text s w1 (mark_at w1 b i))
  hash_stays g e i h = e i h ∙ g i h ∙ ap hash_of (sym (text_stays i h))

  pub texts-stay : (k : ℕ) → k ≤ n → texts_of s w1 b k ≡ texts_of s w b k
  unfolding texts_of
  texts-stay zero h = refl
  texts-stay (suc k) h = cc (texts-stay k (omega arith), text_stays k (omega arith))

pub linked-le : (k : ℕ) → linked k ≤ k
unfolding linked
linked-le k = omega arith

-- ---- THE LAW for other regions: the records and the texts behind z are as they were
module _ (s w w1 : List ℕ) (m : Map) (z : ℕ) (g : Table s w m) (a : Above s w m z) (l : length w1 ≡ length w) (far : Agree w w1 z (length w))
    (records : Agree w w1 m.base (m.base + 24 * m.count)) (heads : Agree w w1 m.base (m.base + 24 * m.buckets)) where
  mark_stays : (i : ℕ) → i < m.count → mark_at w1 m.base i ≡ mark_at w m.base i
  unfolding mark_at
  mark_stays i h = le_at-agree 8 w w1 (m.base + 24 * i) (λ j x y. records.agree j (omega arith) (omega arith))

  number-stays : (i : ℕ) → i < m.count → hash_at w1 m.base i ≡ hash_at w m.base i
  unfolding hash_at
  number-stays i h = le_at-agree 4 w w1 (m.base + 24 * i + 8) (λ j x y. records.agree j (omega arith) (omega arith))

  link_stays : (i : ℕ) → i < m.count → link_at w1 m.base i ≡ link_at w m.base i
  unfolding link_at
  link_stays i h = le_at-agree 4 w w1 (m.base + 24 * i + 12) (λ j x y. records.agree j (omega arith) (omega arith))

  cell_stays : (i : ℕ) → i < m.count → cell_at w1 m.base i ≡ cell_at w m.base i
  unfolding cell_at
  cell_stays i h = le_at-agree 4 w w1 (m.base + 24 * i + 20) (λ j x y. records.agree j (omega arith) (omega arith))

  head_stays : (i : ℕ) → i < m.buckets → head_at w1 m.base i ≡ head_at w m.base i
  unfolding head_at
  head_stays i h = le_at-agree 4 w w1 (m.base + 24 * i + 16) (λ j x y. heads.agree j (omega arith) (omega arith))

  pub stays : Stays s w m w1 m
  unfolding texts
  stays =
      let c = linked-le m.count in
      record {
        base = refl;
        count = refl;
        table = record {
          narrow = g.narrow;
          room = rw l g.room;
          wide = rw l g.wide;
          whole = whole_stays s w w1 m.base m.count z g.whole a.above l far.agree mark_stays;
          hashes = hash_stays s w w1 m.base m.count z g.whole a.above l far.agree mark_stays g.hashes number-stays;
          chained = chained_same w w1 m.base m.buckets (linked m.count) (λ i h. number-stays i (omega arith)) (λ i h. link_stays i (omega arith)) head_stays g.chained;
        };
        same = texts-stay s w w1 m.base m.count z g.whole a.above l far.agree mark_stays m.count (omega arith);
        marks = mark_stays;
        cells = cell_stays;
      }

-- theorem: the bound stays with the marks
pub above_stays : (s w : List ℕ) (m : Map) (w1 : List ℕ) (m1 : Map) (z : ℕ) → Stays s w m w1 m1 → Above s w m z → Above s w1 m1 z
above_stays s w m w1 m1 z t a = record { above = λ i h. go i (rw t.count at h) }
  where
    go : (i : ℕ) → i < m.count → Behind s z (mark_at w1 m1.base i)
    go i h = rw (t.base, t.marks i h) (a.above i h)

-- theorem: a bound may be lower
pub above_lower : (s w : List ℕ) (m : Map) (z y : ℕ) → y ≤ z → Above s w m z → Above s w m y
above_lower s w m z y h a = record { above = λ i k. go (a.above i k) }
  where
    go : {x : ℕ} → Behind s z x → Behind s y x
    go (inl p) = inl p
    go (inr p) = inr (omega arith)

-- one store beside the records and below z
module _ (s w w1 : List ℕ) (m : Map) (z at : ℕ) (vs : List ℕ) (g : Table s w m) (a : Above s w m z) (o : w1 ≡ store w at vs) (h : at + length vs ≤ z) where
  -- theorem: a store below the records
  pub stays_below : at + length vs ≤ m.base → Stays s w m w1 m
  stays_below k = rw o (stays s w (store w at vs) m z g a (length_store w at vs)
      (record { agree = λ i x y. get_d_store_after w at vs i (omega arith) })
      (record { agree = λ i x y. get_d_store_after w at vs i (omega arith) })
      (record { agree = λ i x y. get_d_store_after w at vs i (omega arith) }))

  -- theorem: and one above them
  pub stays_above : m.base + 24 * m.count ≤ at → m.base + 24 * m.buckets ≤ at → Stays s w m w1 m
  stays_above k n = rw o (stays s w (store w at vs) m z g a (length_store w at vs)
      (record { agree = λ i x y. get_d_store_after w at vs i (omega arith) })
      (record { agree = λ i x y. get_d_store_before w at vs i (omega arith) })
      (record { agree = λ i x y. get_d_store_before w at vs i (omega arith) }))

-- ---- `put_cell`
module _ (s w w1 : List ℕ) (m : Map) (z k v : ℕ) (g : Table s w m) (a : Above s w m z) (r : m.base + 24 * m.count ≤ z) (h : k < m.count) (f : v < 4294967296) (o : w1 ≡ store w (m.base + 24 * k + 20) (le 4 v)) where
  -- theorem: what `put_cell` does
  pub celled : Celled s w m k v w1
  unfolding texts cell_at
  celled =
      let q = g.room in
      let c = linked-le m.count in
      let d : Beside w w1 m.base k 20 4 = beside w w1 (m.base + 24 * k + 20) (le 4 v) m.base k 20 4 o refl (length-le 4 v) (omega arith) in
      let far : (i : ℕ) → z ≤ i → i < length w → get_or w1 i 0 ≡ get_or w i 0 = λ i x y. d.after i (omega arith) in
      let marks : (i : ℕ) → i < m.count → mark_at w1 m.base i ≡ mark_at w m.base i = λ i x. d.mark i (λ _. inl (omega arith)) in
      let hashes : (i : ℕ) → i < m.count → hash_at w1 m.base i ≡ hash_at w m.base i = λ i x. d.hash i (λ _. inl (omega arith)) in
      record {
        table = record {
          narrow = g.narrow;
          room = rw d.long g.room;
          wide = rw d.long g.wide;
          whole = whole_stays s w w1 m.base m.count z g.whole a.above d.long far marks;
          hashes = hash_stays s w w1 m.base m.count z g.whole a.above d.long far marks g.hashes hashes;
          chained = chained_same w w1 m.base m.buckets (linked m.count) (λ i x. hashes i (omega arith)) (λ i x. d.link i (λ _. inl (omega arith))) (λ y x. d.head y (λ _. inl (omega arith))) g.chained;
        };
        same = texts-stay s w w1 m.base m.count z g.whole a.above d.long far marks m.count (omega arith);
        marks = marks;
        cell = rw o (le_at-same 4 w (m.base + 24 * k + 20) v (omega arith) f);
        cells = λ i n. d.cell i (λ e. absurd (n e));
        before = λ i x. d.before i x;
        after = λ i x. d.after i x;
      }

-- ---- nothing changed but cells
pub recelled_same : (s w : List ℕ) (m : Map) → Table s w m → Recelled s w m w
recelled_same s w m h = record { long = refl; table = h; same = refl; marks = λ k l. refl; others = λ i d. refl }

pub recelled_trans : (s w w' w'' : List ℕ) (m : Map) → Recelled s w m w' → Recelled s w' m w'' → Recelled s w m w''
recelled_trans s w w' w'' m p q = record {
  long = q.long ∙ p.long;
  table = q.table;
  same = q.same ∙ p.same;
  marks = λ k l. q.marks k l ∙ p.marks k l;
  others = λ i d. q.others i d ∙ p.others i d;
}

-- one cell more
pub recelled_celled : (s w : List ℕ) (m : Map) (k v : ℕ) (w' : List ℕ) → length w' ≡ length w → k < m.count → Celled s w m k v w' → Recelled s w m w'
recelled_celled s w m k v w' o l c = record { long = o; table = c.table; same = c.same; marks = c.marks; others = others }
  where
    others : (i : ℕ) → (i < m.base) ⊎ (m.base + 24 * m.count ≤ i) → get_or w' i 0 ≡ get_or w i 0
    others i (inl x) = c.before i (omega arith)
    others i (inr x) = c.after i (omega arith)
