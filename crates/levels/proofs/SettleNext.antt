-- A turn of settle_names: one name more is settled before the others. Assumes nothing.
use mathlib.Core.Path.{◌≡◌, refl, ap, ◌∙◌, subst}
use mathlib.Core.Bool.{Bool, true, false}
use mathlib.Core.Logic.{◌⊎◌, inl, inr}
use mathlib.Core.List.{List, ◌++◌, append_assoc}
use Prim.Native.Nat.{ℕ, ◌+◌, ◌*◌, ◌<◌, ◌≤◌}
use native.Mathlib.Omega.{arith}
use borrow.Author.Tests.{eqb-true, eqb-false, ltb-true, ltb-false}
use lib.Dec.{eqb, ltb}
use lib.ListN.{length, get_or}
use Rattle.octets.specs.Plain.Runs.{Lies}
use Rattle.octets.proofs.LiesLaws.{lies_append}
use Rattle.parse_tree.specs.Plain.Tree.{Text}
use Rattle.parse_tree.specs.Working.Nodes.{node_bytes}
use Rattle.parse_tree.specs.Working.Encode.{atom_bytes}
use Rattle.texts.specs.declared.Map.{Map}
use Rattle.texts.specs.Fields.{mark_at}
use Rattle.texts.specs.Texts.{marked_text, Behind}
use Rattle.texts.proofs.TableStays.{le_at-agree, whole_agree, text_agree}
use Rattle.texts.proofs.TableMarks.{atom_lies_text, atom_lies_inside, work_mark_whole, work_mark_text, work_mark_behind}
use Rattle.precedence.specs.Names.{named_text}
use Rattle.levels.specs.Settle.{name_bytes, NameSettled, SettlingNames}
use Rattle.levels.proofs.WroteLaws.{lies_stay}
use Rattle.levels.proofs.SettleLaws.{Told, Going, going_named, going_upto, going_short, going_size, going_bytes}

-- a bound may be lower
behind_lower : (s : List ℕ) (z y x : ℕ) → y ≤ z → Behind s z x → Behind s y x
behind_lower s z y x h (inl p) = inl p
behind_lower s z y x h (inr p) = inr (omega arith)

module _ (s w : List ℕ) (m : Map) (j : ℕ) (t : Text) (q r : ℕ) (w1 : List ℕ) (y : NameSettled s w m j t q r w1) where
  -- ---- the record that was told says its text
  settled_told : length t < 65536 → 8 * length s ≤ r → Told s w1 m j t r
  unfolding atom_bytes node_bytes
  settled_told short far = record {
    whole = rw y.mark (work_mark_whole s w1 r far (atom_lies_inside w1 r q t short y.lies));
    behind = rw y.mark (work_mark_behind s w1 r far r (omega arith));
    text = ap (marked_text s w1) y.mark ∙ work_mark_text s w1 r far ∙ atom_lies_text w1 r q t short y.lies;
  }

  -- ---- and those behind it say theirs
  module _ (i : ℕ) (u : Text) (o : Told s w m i u q) (after : j < i) (low : m.base + 24 * i + 24 ≤ r) where
    mark_same : mark_at w1 m.base i ≡ mark_at w m.base i
    unfolding mark_at
    mark_same = le_at-agree 8 w w1 (m.base + 24 * i) (λ d a b. y.others d (inr (inl (omega arith, omega arith))))

    beyond : (d : ℕ) → q ≤ d → d < length w → get_or w1 d 0 ≡ get_or w d 0
    beyond d a b = y.others d (inr (inr a))

    told_next : Told s w1 m i u r
    told_next =
        let x = mark_at w m.base i in
        record {
          whole = rw mark_same (whole_agree s w w1 q x y.long o.whole o.behind beyond);
          behind = rw mark_same (behind_lower s q r x (omega (arith, y.place)) o.behind);
          text = ap (marked_text s w1) mark_same ∙ text_agree s w w1 q x y.long o.whole o.behind beyond ∙ o.text;
        }

-- ---- a turn
module _ (s w : List ℕ) (m : Map) (n end : ℕ) (h : SettlingNames s w m n end) (k q : ℕ) (w1 : List ℕ) (x : Going s w m n end k q w1) (j : ℕ) (e : k ≡ j + 1) (new : m.count ≤ j)
    (r : ℕ) (w2 : List ℕ) (f : NameSettled s w1 m j (named_text s w1 m j) q r w2) where
  abbrev t : Text
  t = named_text s w m j

  settled : NameSettled s w1 m j t q r w2
  settled = subst (λ (u : Text). NameSettled s w1 m j u q r w2) (going_named s w m n end h k q w1 x j (omega arith)) f

  next_place : r + length (name_bytes s w m n) ≡ end + length (name_bytes s w m j)
  next_place = omega (arith, settled.place, x.place, going_size s w m n end h k q w1 x j e new)

  r_far : 8 * length s ≤ r
  r_far = omega (arith, next_place, h.far)

  r_records : m.base + 24 * n ≤ r
  r_records = omega (arith, next_place, h.records)

  next_split : name_bytes s w m n ≡ name_bytes s w m j ++ (atom_bytes 2 t ++ x.rest)
  next_split = x.split ∙ ap (λ (l : List ℕ). l ++ x.rest) (going_bytes s w m n end h k q w1 x j e new) ∙ append_assoc (name_bytes s w m j) (atom_bytes 2 t) x.rest

  next_lies : Lies w2 r (atom_bytes 2 t ++ x.rest) end
  next_lies = lies_append settled.lies (lies_stay w1 w2 q end x.rest settled.long (λ d a b. settled.others d (inr (inr a))) x.lies)

  next_told : (i : ℕ) → j ≤ i → i < n → Told s w2 m i (named_text s w m i) r
  next_told i a b = go (eqb j i) refl
    where
      go : (c : Bool) → eqb j i ≡ c → Told s w2 m i (named_text s w m i) r
      go true z = subst (λ (d : ℕ). Told s w2 m d (named_text s w m d) r) (eqb-true j i z) (settled_told s w1 m j t q r w2 settled (going_short s w m n end h k q w1 x j e new) r_far)
      go false z =
          let y = eqb-false j i z in
          let l : k ≤ i = omega arith in
          told_next s w1 m j t q r w2 settled i (named_text s w m i) (x.told i l b) (omega arith) (omega (arith, r_records))

  next_fields : (i d : ℕ) → i < n → m.base + 24 * i + 8 ≤ d → d < m.base + 24 * i + 24 → get_or w2 d 0 ≡ get_or w d 0
  next_fields i d l a b = settled.others d (go (ltb i j) refl) ∙ x.fields i d l a b
    where
      go : (c : Bool) → ltb i j ≡ c → (d < m.base + 24 * j) ⊎ ((m.base + 24 * j + 8 ≤ d) × (d < r)) ⊎ (q ≤ d)
      go true z = inl (omega (arith, ltb-true i j z))
      go false z = inr (inl (omega (arith, ltb-false i j z), omega (arith, r_records)))

  next_others : (d : ℕ) → (d < m.base + 24 * j) ⊎ ((m.base + 24 * n ≤ d) × (d < r)) ⊎ (end ≤ d) → get_or w2 d 0 ≡ get_or w d 0
  next_others d (inl p) = settled.others d (inl p) ∙ x.others d (inl (omega arith))
  next_others d (inr (inl p)) =
      settled.others d (inr (inl (omega (arith, p.0, x.upto), p.1))) ∙ x.others d (inr (inl (p.0, omega (arith, p.1, settled.place))))
  next_others d (inr (inr p)) = settled.others d (inr (inr (omega (arith, going_upto s w m n end h k q w1 x)))) ∙ x.others d (inr (inr p))

  -- theorem: the names from the one before on are settled
  pub going_next : Going s w m n end j r w2
  going_next = record {
    from = new;
    upto = omega (arith, x.upto);
    long = settled.long ∙ x.long;
    place = next_place;
    rest = atom_bytes 2 t ++ x.rest;
    split = next_split;
    lies = next_lies;
    told = next_told;
    fields = next_fields;
    others = next_others;
  }
