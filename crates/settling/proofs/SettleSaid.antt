-- A turn of settle begins: the texts that are written already are known by the references of symbols. Assumes nothing.
use mathlib.Core.Path.{◌≡◌, sym, ap, ◌∙◌, subst}
use mathlib.Core.Bool.{true}
use mathlib.Core.Logic.{inl, inr}
use mathlib.Core.List.{List, []}
use Prim.Native.Nat.{ℕ, ◌+◌, ◌-◌, ◌/◌, ◌%◌, ◌<◌, ◌≤◌}
use native.Mathlib.Omega.{arith}
use lib.ListN.{length, get_or}
use Rattle.parse_tree.specs.Plain.Tree.{Text, Sym}
use Rattle.parse_tree.specs.Working.Within.{Each}
use Rattle.texts.specs.Fields.{mark_at}
use Rattle.texts.specs.Table.{texts}
use Rattle.texts.specs.Texts.{marked_text}
use Rattle.texts.proofs.TableStays.{le_at-agree}
use Rattle.texts.proofs.TextCode.{texts-at}
use Rattle.replacing.specs.Slots.{among}
use Rattle.expander.specs.declared.Ground.{Ground}
use Rattle.expander.specs.Ground.{size_in, top_of, slot_place, slot_at, key_at, list_at, symbol_in, printed_at, Grounded}
use Rattle.expander.specs.Held.{followed}
use Rattle.expander.specs.Names.{described_by, named_in}
use Rattle.expander.specs.Replace.{keys_of}
use Rattle.expander.proofs.GroundLaws.{keys_slots}
use Rattle.expander.proofs.NamedTexts.{length_named, named-found, named_new}
use Rattle.expander.proofs.SlotsCode.{followed-kept}
use Rattle.settling.specs.declared.copied.Print.{Print}
use Rattle.settling.specs.Copied.{TextStands, Numbered, Said, SaidIn}
use Rattle.settling.specs.One.{new_cell, TextReady}
use Rattle.settling.specs.Settle.{Settling}
use Rattle.settling.proofs.SettleStays.{placed_texts, placed_above, key_same, print-same, symbol_same}
use Rattle.settling.proofs.SettleLaws.{Told, Going, going_top, going_items, going_far, going_upto, going_ground, list_old, text_old, entry_new, going_short, going_size}
use Rattle.settling.proofs.CopiedStays.{each_same, slot_top}

module _ (s w : List ℕ) (g : Ground) (n c end : ℕ) (h : Settling s w g n c end) (i q : ℕ) (w1 : List ℕ) (r : Going s w g c end i q w1) (j : ℕ) (e : i ≡ j + 1) where
  abbrev x : Print
  x = record { g = g; first = g.m.count + j + 1; lim = q }

  top : top_of g ≤ q
  top = omega (arith, going_top s w g n c end h i q w1 r)

  items : g.end ≤ q
  items = omega (arith, going_items s w g n c end h i q w1 r)

  G1 : Grounded s w1 g
  G1 = going_ground s w g n c end h i q w1 r

  slot_from : (p : ℕ) → g.slots ≤ slot_place g p
  slot_from p = omega arith

  slot_old : (p : ℕ) → p + 9 ≤ size_in g → slot_at w1 g p ≡ slot_at w g p
  slot_old p l =
      le_at-agree 8 w w1 (slot_place g p) (λ d a b. r.placed.others d (inr (inl (omega (arith, slot_from p, keys_slots s w g h.ground), omega (arith, slot_top g p l, top)))))

  key_old : (k : ℕ) → k < size_in g / 9 → key_at w1 g k ≡ key_at w g k
  key_old k l = key_same s w w1 g (g.m.count + i) q end h.ground (omega arith) top items h.above r.placed k l

  print-old : (p : ℕ) → printed_at s w1 g p ≡ printed_at s w g p
  print-old p = print-same s w w1 g (g.m.count + i) q end h.ground (omega arith) top items h.above r.placed p

  texts-old : texts s w1 g.m ≡ texts s w g.m
  texts-old = placed_texts s w w1 g (g.m.count + i) q end h.ground (omega arith) top items h.above r.placed

  -- ---- a text that has a number, and is written
  module _ (k : ℕ) (l : k < g.m.count + c) where
    -- of the table
    old_stands : k < g.m.count → TextStands s w1 x k
    old_stands o = record {
      low = omega (arith, h.ground.records);
      whole = G1.table.whole k o;
      behind = (placed_above s w w1 g (g.m.count + i) q end h.ground (omega arith) top items h.above r.placed q (going_upto s w g n c end h i q w1 r)).above k o;
    }

    old_text : k < g.m.count → marked_text s w1 (mark_at w1 g.m.base k) ≡ get_or (named_in s w g c) k []
    unfolding texts
    old_text o = sym (texts-at s w1 g.m.base g.m.count k o) ∙ ap (λ (ts : List Text). get_or ts k []) texts-old ∙ sym (named-found s w g c k o)

    -- a new one
    module _ (o : g.m.count + j + 1 ≤ k) where
      place_is : g.m.count + (k - g.m.count) ≡ k
      place_is = omega arith

      told : Told s w1 g (k - g.m.count) (described_by s w g (list_at w g (k - g.m.count))) (new_cell (list_at w g (k - g.m.count))) q
      told = r.told (k - g.m.count) (omega arith) (omega arith)

      new_stands : TextStands s w1 x k
      new_stands = record { low = omega (arith, h.records); whole = rw place_is at told.whole; behind = rw place_is at told.behind }

      new_text : marked_text s w1 (mark_at w1 g.m.base k) ≡ get_or (named_in s w g c) k []
      new_text = ap (λ (d : ℕ). marked_text s w1 (mark_at w1 g.m.base d)) (sym place_is) ∙ told.text ∙ sym (named_new s w g c k (omega arith) l)

    text_stands : Numbered x k → TextStands s w1 x k
    text_stands (inl o) = old_stands o
    text_stands (inr o) = new_stands o

    text_is_lem : Numbered x k → marked_text s w1 (mark_at w1 g.m.base k) ≡ get_or (named_in s w g c) k []
    text_is_lem (inl o) = old_text o
    text_is_lem (inr o) = new_text o

  -- ---- a symbol that has a reference
  module _ (p : ℕ) (a : among p h.places ≡ true) where
    abbrev v : ℕ
    v = slot_at w g p

    abbrev u : ℕ
    u = followed w g (slot_at w g p)

    own : p + 9 ≤ size_in g
    own = h.names.inside p a

    below : v % 2 ≡ 1 → v / 2 < n
    below o = (h.names.refers p a).odd o

    few : v % 2 ≡ 1 → v / 2 < size_in g / 9
    few o = omega (arith, below o, h.names.records.few)

    place : v % 2 ≡ 1 → key_at w g (v / 2) + 9 ≤ size_in g
    place o = h.names.inside (key_at w g (v / 2)) (h.names.pushed (v / 2) (below o))

    follow_old : followed w1 g (slot_at w1 g p) ≡ followed w g (slot_at w g p)
    follow_old = ap (followed w1 g) (slot_old p own) ∙ followed-kept w w1 g v (λ o. ap (slot_at w1 g) (key_old (v / 2) (few o)) ∙ slot_old (key_at w g (v / 2)) (place o))

    number : u % 2 ≡ 0 → u / 2 < g.m.count + c
    number z = omega (arith, ((h.names.refs p a).even z).0, length_named s w g c)

    odd_old : slot_at w1 g p % 2 ≡ 1 → slot_at w g p % 2 ≡ 1
    odd_old o = rw (slot_old p own) at o

    even_old : followed w1 g (slot_at w1 g p) % 2 ≡ 0 → followed w g (slot_at w g p) % 2 ≡ 0
    even_old z = rw follow_old at z

    was : Numbered x (followed w1 g (slot_at w1 g p) / 2) → Numbered x (followed w g (slot_at w g p) / 2)
    was z = rw follow_old at z

    place_new : slot_at w1 g p % 2 ≡ 1 → key_at w1 g (slot_at w1 g p / 2) + 9 ≤ size_in g
    place_new o = rw (slot_old p own, key_old (v / 2) (few (odd_old o))) (place (odd_old o))

    -- theorem: what is known of it
    said_one : Said s w1 x p
    said_one = record {
      room = own;
      pushed = λ o. rw (slot_old p own) (few (odd_old o));
      place = place_new;
      stands = λ z k. subst (TextStands s w1 x) (sym (ap (λ (d : ℕ). d / 2) follow_old)) (text_stands (u / 2) (number (even_old z)) (was k));
      is = λ z k.
          ap (λ (d : ℕ). marked_text s w1 (mark_at w1 g.m.base (d / 2))) follow_old ∙ text_is_lem (u / 2) (number (even_old z)) (was k) ∙ ((h.names.refs p a).even (even_old z)).1 ∙ sym (print-old p);
    }

  -- ---- the symbol whose text is the next
  going_said : list_at w1 g j % 2 ≡ 0 → SaidIn s w1 x (key_at w1 g (list_at w1 g j / 2))
  going_said z =
      let f = list_old s w g n c end h i q w1 r j e in
      let l : list_at w g j / 2 < n = (h.names.entries j (omega (arith, r.upto))).0 (rw f at z) in
      let b : key_at w1 g (list_at w1 g j / 2) ≡ key_at w g (list_at w g j / 2) = ap (λ (d : ℕ). key_at w1 g (d / 2)) f ∙ key_old (list_at w g j / 2) (omega (arith, l, h.names.records.few)) in
      rw b (
      subst (λ (y : Sym). Each (Said s w1 x) (keys_of g.width.bytes (texts s w1 g.m) y (key_at w g (list_at w g j / 2)))) (sym (symbol_same s w w1 g (g.m.count + i) q end h.ground (omega arith) top items h.above r.placed (key_at w g (list_at w g j / 2))))
      (subst (λ (ts : List Text). Each (Said s w1 x) (keys_of g.width.bytes ts (symbol_in s w g (key_at w g (list_at w g j / 2))) (key_at w g (list_at w g j / 2)))) (sym texts-old)
      (each_same (keys_of g.width.bytes (texts s w g.m) (symbol_in s w g (key_at w g (list_at w g j / 2))) (key_at w g (list_at w g j / 2))) said_one (h.referred (list_at w g j / 2) l)))
      )

  -- theorem: it can be written
  pub going_ready : TextReady s w1 g j q
  going_ready =
      let t = ap length (text_old s w g n c end h i q w1 r j e) in
      let z = going_size s w g n c end h i q w1 r j e in
      record {
        ground = G1;
        entry = entry_new s w g n c end h i q w1 r j e;
        short = omega (arith, t, going_short s w g n c end h i q w1 r j e);
        place = omega (arith, h.names.room, r.upto);
        record_place = omega (arith, h.records, r.upto);
        items = omega (arith, t, z, going_items s w g n c end h i q w1 r);
        top = omega (arith, t, z, going_top s w g n c end h i q w1 r);
        far = omega (arith, t, z, going_far s w g n c end h i q w1 r);
        inside = omega (arith, going_upto s w g n c end h i q w1 r, h.inside, r.placed.long);
        above = placed_above s w w1 g (g.m.count + i) q end h.ground (omega arith) top items h.above r.placed q (going_upto s w g n c end h i q w1 r);
        behind = rw r.placed.long h.behind;
        said = going_said;
      }
