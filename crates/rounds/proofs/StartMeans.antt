-- THE THEOREM: what the replacing stage of a round leaves, with the words of built-in texts cleared, is the pile that appending begins with. Assumes nothing.
use mathlib.Core.Path.{◌≡◌, refl, sym, ap, ◌∙◌, subst}
use mathlib.Core.Bool.{Bool, true, false}
use mathlib.Core.List.{List, ◌++◌, map}
use Prim.Native.Nat.{ℕ, zero, suc, ◌/◌, ◌%◌, ◌<◌, ◌≤◌}
use native.Mathlib.Omega.{arith}
use borrow.Author.Tests.{eqb-true, eqb-false}
use lib.Dec.{eqb}
use lib.ListN.{length}
use Rattle.octets.specs.Plain.Numbers.{Bytes}
use Rattle.parse_tree.specs.Plain.Tree.{Text, Item}
use Rattle.parse_tree.specs.Plain.Texts.{has}
use Rattle.parse_tree.specs.Plain.References.{stage_of}
use Rattle.parse_tree.specs.Working.Within.{Each}
use Rattle.parse_tree.proofs.ReadingLaws.{each_map}
use Rattle.texts.specs.Table.{texts}
use Rattle.texts.proofs.TextCode.{length_texts}
use Rattle.passes.specs.Outcome.{Tree}
use Rattle.passes.specs.Macros.{Pending, without_macros}
use Rattle.laws.specs.Keys.{built_ins}
use Rattle.resolve.specs.declared.Grammar.{Grammar}
use Rattle.replacing.specs.Trees.{inner}
use Rattle.replacing.specs.Prints.{sym_at, print_at}
use Rattle.replacing.specs.Slots.{Ref, Slots}
use Rattle.replacing.specs.Sound.{AllNoted}
use Rattle.replacing.specs.Round.{replaced, Replaced as RoundReplaced}
use Rattle.replacing.proofs.RoundMeans.{round_means}
use Rattle.expander.specs.declared.Ground.{Ground}
use Rattle.expander.specs.declared.stage.Replaced.{Replaced}
use Rattle.expander.specs.Ground.{stage_in, key_at, list_at, symbol_in, printed_at, Grounded, Around}
use Rattle.expander.specs.Held.{down, Held}
use Rattle.expander.specs.Stage.{WroteOnly}
use Rattle.expander.specs.Names.{named_in, Names}
use Rattle.expander.proofs.GroundLaws.{stage_around, texts-around, grounded_around}
use Rattle.expander.proofs.HeldStays.{stage_wrote, texts-wrote}
use Rattle.expander.proofs.NamedTexts.{new_prints}
use Rattle.expander.proofs.NamesLaws.{held-names}
use Rattle.appending.specs.Built.{Built}
use Rattle.appending.specs.Pieces.{Appending}
use Rattle.macro_expand.specs.Drain.{Declares, OnPile}
use Rattle.rounds.specs.Start.{Replacing, Cleared, Roomy, StartsAppending, at_start, replaced_by}
use Rattle.rounds.proofs.StartTrees.{Fine, pushed-fine}
use Rattle.rounds.proofs.StartNames.{cleared_around, pile_same, list_same, named-cleared, names_cleared}
use Rattle.rounds.proofs.StartBuilt.{built_started}
use Rattle.rounds.proofs.StartPile.{key_other, key_on_pile}

-- ---- lists
count-texts : (s w : List ℕ) (g : Ground) → length (texts s w g.m) ≡ g.m.count
unfolding texts
count-texts s w g = length_texts s w g.m.base g.m.count

each_at : (P : Pending → Type 0) (f : ℕ → Pending) (k : ℕ → ℕ) (n : ℕ) → Each P (map f (down k n)) → (j : ℕ) → j < n → P (f (k j))
unfolding down
each_at P f k zero h j l = absurd (omega arith)
each_at P f k (suc n) h j l = go (eqb j n) refl (each_at P f k n h.1 j)
  where
    go : (b : Bool) → eqb j n ≡ b → (j < n → P (f (k j))) → P (f (k j))
    go true e i = subst (λ (v : ℕ). P (f (k v))) (sym (eqb-true j n e)) h.0
    go false e i = let z = eqb-false j n e in i (omega arith)

module _ (s w : List ℕ) (g : Ground) (to : ℕ) (r : Replaced) (w' : List ℕ) (is : List Item) (K : List Text) (ms : List ℕ) (G : Tree) (h : Replacing s w g to r w' is K ms G) where
  -- ---- the run
  abbrev pub slots : Slots
  slots = (replaced false g.width.bytes (stage_in w g) (texts s w g.m) ms).slots

  pub round : RoundReplaced false g.width.bytes (stage_in w g) (texts s w g.m) K (replaced_by is K) (replaced false g.width.bytes (stage_in w g) (texts s w g.m) ms)
  round =
      round_means false g.width.bytes (stage_in w g) (texts s w g.m) h.bytes h.ground.distinct-texts K ms h.keys
      (each_map (λ k l. omega (arith, l, count-texts s w g)) ms h.marks.below) h.many is h.read

  pub held : Held s w' g r.pile r.count slots
  held = (h.stages.each ms h.marks).held

  abbrev pub places : List ℕ
  places = map (λ (v : ℕ × Ref). v.0) slots.refs

  pub names : Names s w' g r.pile r.count places
  names = held-names s w' g h.stages.ground r.pile r.count slots held

  -- ---- items and texts are those that were read
  back : WroteOnly g to r.to w' w
  back = let k = h.stages.wrote in record { long = sym k.long; others = λ i d. sym (k.others i d) }

  before : r.to ≤ h.stages.writable.lim
  before = omega (arith, h.stages.writable.room)

  pub stage_read : stage_in w g ≡ stage_in w' g
  stage_read = stage_wrote s w' w g to r.to h.stages.writable.lim h.stages.ground h.top h.items before h.stages.writable.above back

  pub texts-read : texts s w g.m ≡ texts s w' g.m
  texts-read = texts-wrote s w' w g to r.to h.stages.writable.lim h.stages.ground h.top h.items before h.stages.writable.above back

  -- the texts by number
  named-held : named_in s w' g r.count ≡ texts s w' g.m ++ map (λ p. printed_at s w' g p) slots.news
  unfolding named_in
  named-held = ap (λ (us : List Text). texts s w' g.m ++ us) (new_prints s w' g r.count (λ i l. (held.entries i l).0) ∙ ap (map (λ p. printed_at s w' g p)) (sym held.news))

  pub named-is : named_in s w' g r.count ≡ (stage_of (texts s w g.m) (replaced_by is K).0).atoms
  named-is =
      named-held
      ∙ sym (ap (λ (st : List ℕ). texts s w' g.m ++ map (print_at false g.width.bytes st (texts s w' g.m)) slots.news) stage_read)
      ∙ sym (ap (λ (ts : List Text). ts ++ map (print_at false g.width.bytes (stage_in w g) ts) slots.news) texts-read)
      ∙ round.atoms

  -- ---- the words were cleared
  module _ (w'' : List ℕ) (k : Cleared g.slots w' w'') (lim : ℕ) (m : Roomy s w'' g r lim) where
    around : Around g w' w''
    around = cleared_around s w' w'' g r.pile h.stages.ground m.records m.heads k

    ground : Grounded s w'' g
    ground = grounded_around s w' w'' g h.stages.ground around

    names_now : Names s w'' g r.pile r.count places
    names_now = names_cleared s w' w'' g r.pile h.stages.ground m.records m.heads k r.count places names

    stage_now : stage_in w g ≡ stage_in w'' g
    stage_now = stage_read ∙ sym (stage_around s w' w'' g h.stages.ground around)

    texts-now : texts s w g.m ≡ texts s w'' g.m
    texts-now = texts-read ∙ sym (texts-around s w' w'' g h.stages.ground around)

    -- what is said of the items and the texts
    said : (P : List ℕ → List Text → Type 0) → P (stage_in w g) (texts s w g.m) → P (stage_in w'' g) (texts s w'' g.m)
    said P x = subst (λ (ts : List Text). P (stage_in w'' g) ts) texts-now (subst (λ (st : List ℕ). P st (texts s w g.m)) stage_now x)

    bytes_now : Bytes (stage_in w'' g)
    bytes_now = subst Bytes stage_now h.bytes

    noted_now : AllNoted g.width.bytes (stage_in w'' g) slots
    noted_now = subst (λ (st : List ℕ). AllNoted g.width.bytes st slots) stage_now round.noted

    -- ---- the pile
    pending_is : map (λ p. inner (symbol_in s w'' g p)) (down (key_at w'' g) r.pile) ≡ (replaced_by is K).1.pile
    pending_is =
        ap (map (λ p. inner (symbol_in s w'' g p))) (pile_same s w' w'' g r.pile h.stages.ground m.records m.heads k ∙ sym held.pile)
        ∙ said (λ st ts. map (λ p. inner (sym_at false g.width.bytes st ts p)) slots.pile ≡ (replaced_by is K).1.pile) round.pile

    fine : (j : ℕ) → j < r.pile → Fine G (inner (symbol_in s w'' g (key_at w'' g j)))
    fine = each_at (Fine G) (λ p. inner (symbol_in s w'' g p)) (key_at w'' g) r.pile (subst (Each (Fine G)) (sym pending_is) (pushed-fine G (without_macros is) K h.sound h.calls))

    other : (j : ℕ) → j < r.pile → has (printed_at s w'' g (key_at w'' g j)) built_ins ≡ false
    other j l = key_other s w'' g ground bytes_now (key_at w'' g j) (names_now.records.keys j l) G (fine j l)

    on_pile : (j : ℕ) → j < r.pile → OnPile s w'' g places G (key_at w'' g j)
    on_pile j l = key_on_pile s w'' g ground bytes_now (key_at w'' g j) (names_now.records.keys j l) G (fine j l) slots noted_now (names_now.pushed j l)

    entries_now : (i : ℕ) → i < r.count → (list_at w'' g i % 2 ≡ 0) × (list_at w'' g i / 2 < r.pile)
    entries_now i l =
        let (a, b, c) = held.entries i l in
        let z = list_same s w' w'' g r.pile h.stages.ground m.records m.heads k r.count places names i l in
        (ap (λ (v : ℕ). v % 2) z ∙ a, omega (arith, ap (λ (v : ℕ). v / 2) z))

    built_now : Built s w'' g r.pile r.count
    built_now = built_started s w'' g r.pile other r.count m.records m.heads m.list k.words entries_now

    going : Appending s g r.pile lim places w'' (at_start r)
    going = record {
      ground = ground;
      names = names_now;
      built = built_now;
      top = m.top;
      items = m.items;
      upto = m.upto;
      low = m.low;
      behind = m.behind;
      inside = m.inside;
      above = m.above;
    }

    starts : (t : Grammar) (four : Bool) → Declares s w'' g t (at_start r) four G → StartsAppending s w g r is K lim t four G w''
    starts t four d = record {
      places = places;
      pile = record { going = going; declares = d; piled = on_pile };
      pending = pending_is;
      texts-are = named-cleared s w' w'' g r.pile h.stages.ground m.records m.heads k r.count places names ∙ named-is;
    }

-- theorem: appending begins with what replacing left
pub pile_starts : (s w : List ℕ) (g : Ground) (to : ℕ) (r : Replaced) (w' : List ℕ) (is : List Item) (K : List Text) (ms : List ℕ) (G : Tree) → Replacing s w g to r w' is K ms G
    → (w'' : List ℕ) → Cleared g.slots w' w'' → (lim : ℕ) → Roomy s w'' g r lim → (t : Grammar) (four : Bool) → Declares s w'' g t (at_start r) four G
    → StartsAppending s w g r is K lim t four G w''
pile_starts s w g to r w' is K ms G h w'' k lim m t four d = starts s w g to r w' is K ms G h w'' k lim m t four d
