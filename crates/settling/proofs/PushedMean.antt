-- What stays where texts were marked: the ground, the names, and that the new texts can be settled. Assumes nothing.
use mathlib.Core.Path.{◌≡◌, sym, ap, ◌∙◌}
use mathlib.Core.Bool.{true}
use mathlib.Core.Logic.{inl, inr}
use mathlib.Core.List.{List}
use Prim.Native.Nat.{ℕ, ◌+◌, ◌*◌, ◌/◌, ◌<◌, ◌≤◌}
use native.Mathlib.Omega.{arith}
use lib.ListN.{length, get_or, drop}
use lib.Seq.{drop-append_seam}
use Rattle.parse_tree.specs.Plain.Tree.{Text}
use Rattle.parse_tree.specs.Plain.Texts.{distinct}
use Rattle.parse_tree.specs.Plain.WriteTape.{bytes_of_each}
use Rattle.parse_tree.specs.Working.Encode.{atom_bytes}
use Rattle.parse_tree.specs.Working.Within.{Each}
use Rattle.texts.specs.Atoms.{some_long}
use Rattle.texts.specs.Table.{Above, Agree, texts}
use Rattle.texts.specs.Fields.{mark_at}
use Rattle.texts.proofs.TableStays.{le_at-agree, part-agree}
use Rattle.resolve.specs.Whole.{Apart}
use Rattle.replacing.specs.Slots.{among}
use Rattle.expander.specs.declared.Ground.{Ground}
use Rattle.expander.specs.Ground.{size_in, stage_in, top_of, key_at, symbol_in, list_place, Grounded}
use Rattle.expander.specs.Replace.{keys_of}
use Rattle.expander.specs.Names.{listed_texts, named_in, Names}
use Rattle.expander.proofs.GroundLaws.{list_start, keys_slots, slots_top}
use Rattle.expander.proofs.NamesLaws.{named-agree, names_agree}
use Rattle.settling.specs.Settle.{new_bytes, Settling, MarkedPushed}

module _ (s w : List ℕ) (g : Ground) (n : ℕ) (w1 : List ℕ) (G : Grounded s w g) (m : MarkedPushed s w g n w1) where
  -- theorem: where the texts stand
  pub marked_above : (z : ℕ) → Above s w g.m z → Above s w1 g.m z
  marked_above z a = record { above = λ i l. rw (m.cells.marks i l) (a.above i l) }

  -- theorem: the ground
  pub marked_ground : Grounded s w1 g
  marked_ground = record {
    table = m.cells.table;
    some = G.some;
    distinct-texts = ap distinct m.cells.same ∙ G.distinct-texts;
    narrow = G.narrow;
    wide = G.wide;
    ordered = G.ordered;
    inside = rw m.cells.long G.inside;
    records = G.records;
    heads = G.heads;
    narrower = G.narrower;
    above = marked_above (top_of g) G.above;
    off = G.off;
    fits = G.fits;
    top = rw m.cells.long G.top;
    filled = G.filled;
    few = G.few;
    linkable = G.linkable;
    short = rw m.cells.long G.short;
  }

  -- theorem: the items
  pub marked_stage : stage_in w1 g ≡ stage_in w g
  unfolding stage_in
  marked_stage = part-agree w w1 g.from g.end m.cells.long G.inside (go G.off)
    where
      go : Apart g.from g.end g.m.base (top_of g) → (i : ℕ) → g.from ≤ i → i < g.end → get_or w1 i 0 ≡ get_or w i 0
      go (inl p) i x y = m.cells.others i (inl (omega arith))
      go (inr p) i x y = m.cells.others i (inr (omega (arith, G.records, keys_slots s w g G, slots_top s w g G)))

  -- theorem: the list of new texts, the records of pushed symbols and the slots
  pub marked_agree : Agree w w1 (list_place g 0) (top_of g)
  marked_agree = record { agree = λ i x y. m.cells.others i (inr (omega (arith, list_start g))) }

  module _ (k c : ℕ) (ps : List ℕ) (h : Names s w g k c ps) where
    -- theorem: the names
    pub marked_names : Names s w1 g k c ps
    marked_names = names_agree s w w1 g G marked_agree marked_stage m.cells.same k c ps h

    -- theorem: the texts by number
    pub marked_named : named_in s w1 g c ≡ named_in s w g c
    marked_named = named-agree s w w1 g G marked_agree marked_stage m.cells.same k c ps h

-- ---- the new texts and their bytes
new_is : (s w : List ℕ) (g : Ground) (c : ℕ) → listed_texts s w g c ≡ drop (length (texts s w g.m)) (named_in s w g c)
unfolding named_in
new_is s w g c = sym (drop-append_seam (texts s w g.m) (listed_texts s w g c))

module _ (s w : List ℕ) (g : Ground) (n : ℕ) (w1 : List ℕ) (G : Grounded s w g) (m : MarkedPushed s w g n w1) (k c : ℕ) (ps : List ℕ) (h : Names s w g k c ps) where
  -- theorem: the new texts
  pub marked_new : listed_texts s w1 g c ≡ listed_texts s w g c
  marked_new =
      new_is s w1 g c ∙ ap (λ (ts : List Text). drop (length ts) (named_in s w1 g c)) m.cells.same ∙ ap (drop (length (texts s w g.m))) (marked_named s w g n w1 G m k c ps h) ∙ sym (new_is s w g c)

  -- theorem: and their bytes
  pub marked_bytes : new_bytes s w1 g c ≡ new_bytes s w g c
  unfolding new_bytes
  marked_bytes = ap (bytes_of_each (atom_bytes 2)) marked_new

-- the references of the symbols in the j-th pushed
abbrev Referred : List ℕ → List ℕ → Ground → List ℕ → ℕ → Type 0
Referred s w g ps j = Each (λ (q : ℕ). among q ps ≡ true) (keys_of g.width.bytes (texts s w g.m) (symbol_in s w g (key_at w g j)) (key_at w g j))

marked_referred : (s w : List ℕ) (g : Ground) (n : ℕ) (w1 : List ℕ) → Grounded s w g → MarkedPushed s w g n w1 → (ps : List ℕ) (j : ℕ) → j < size_in g / 9 → Referred s w g ps j → Referred s w1 g ps j
unfolding key_at mark_at
marked_referred s w g n w1 G m ps j l h =
    let b : mark_at w1 g.keys j ≡ mark_at w g.keys j = key_stays in
    rw (b, m.cells.same, marked_stage s w g n w1 G m) h
  where
    key_stays : mark_at w1 g.keys j ≡ mark_at w g.keys j
    key_stays = le_at-agree 8 w w1 (g.keys + 24 * j) (λ i x y. m.cells.others i (inr (omega (arith, G.records))))

-- theorem: new texts can be settled after marking as before
pub marked_settling : (s w : List ℕ) (g : Ground) (n c end : ℕ) (w1 : List ℕ) → Settling s w g n c end → MarkedPushed s w g n w1 → Settling s w1 g n c end
marked_settling s w g n c end w1 h m =
    let z = marked_bytes s w g n w1 h.ground m n c h.places h.names in
    record {
      places = h.places;
      ground = marked_ground s w g n w1 h.ground m;
      names = marked_names s w g n w1 h.ground m n c h.places h.names;
      few = h.few;
      short = ap some_long (marked_new s w g n w1 h.ground m n c h.places h.names) ∙ h.short;
      records = h.records;
      items = rw z h.items;
      top = rw z h.top;
      far = rw z h.far;
      inside = rw m.cells.long h.inside;
      above = marked_above s w g n w1 h.ground m end h.above;
      behind = rw m.cells.long h.behind;
      referred = λ j l. marked_referred s w g n w1 h.ground m h.places j (omega (arith, l, h.names.records.few)) (h.referred j l);
    }
