-- The keys after a round, where a piece was appended: the prints of the pushed symbols, and those before. Assumes nothing.
use mathlib.Core.Path.{◌≡◌, sym, ap, ◌∙◌}
use mathlib.Core.Bool.{false}
use mathlib.Core.List.{List, ◌++◌, map}
use Prim.Native.Nat.{ℕ, ◌+◌, ◌/◌, ◌≤◌}
use Rattle.parse_tree.specs.Plain.Tree.{Text, Item}
use Rattle.texts.specs.Table.{texts}
use Rattle.texts.proofs.TableStays.{part-agree}
use Rattle.passes.specs.Outcome.{Tree}
use Rattle.replacing.specs.Prints.{print_at}
use Rattle.expander.specs.declared.Ground.{Ground}
use Rattle.expander.specs.declared.stage.Replaced.{Replaced}
use Rattle.expander.specs.Ground.{size_in, stage_in, key_at, printed_at, Around}
use Rattle.expander.specs.Held.{down}
use Rattle.expander.proofs.GroundLaws.{stage_around, texts-around}
use Rattle.appending.specs.declared.Appended.{Appended}
use Rattle.appending.specs.Pieces.{Piece, Appending, Appends}
use Rattle.appending.proofs.SymbolsStays.{texts-stay, item_stays}
use Rattle.rounds.specs.Start.{Replacing, Cleared, at_start, replaced_by}
use Rattle.rounds.proofs.StartMeans as starts
use Rattle.expander.proofs.HeldLists.{down-same}
use Rattle.rounds.proofs.StartNames.{cleared_around, pile_same}

stage_stays : (s : List ℕ) (g : Ground) (n lim : ℕ) (ps : List ℕ) (w : List ℕ) (v : Appended) → Appending s g n lim ps w v → (x : Piece) (v' : Appended) (w' : List ℕ) → Appends s g n lim ps w v x v' w' → stage_in w' g ≡ stage_in w g
unfolding stage_in
stage_stays s g n lim ps w v h x v' w' a = part-agree w w' g.from g.end a.long h.ground.inside (item_stays s g n lim ps w v h x v' w' a)

-- replacing left w', clearing w'', appending w'''
module _ (s w : List ℕ) (g : Ground) (to : ℕ) (r : Replaced) (w' : List ℕ) (is : List Item) (K : List Text) (ms : List ℕ) (G : Tree) (h : Replacing s w g to r w' is K ms G)
    (records : r.pile + 3 ≤ size_in g / 9) (heads : g.buckets + 3 ≤ size_in g / 9) (w'' : List ℕ) (k : Cleared g.slots w' w'')
    (lim : ℕ) (ps : List ℕ) (a : Appending s g r.pile lim ps w'' (at_start r)) (x : Piece) (v : Appended) (w''' : List ℕ) (A : Appends s g r.pile lim ps w'' (at_start r) x v w''') where
  around : Around g w' w''
  around = cleared_around s w' w'' g r.pile h.stages.ground records heads k

  -- theorem: the items
  pub stage_last : stage_in w''' g ≡ stage_in w g
  stage_last =
      stage_stays s g r.pile lim ps w'' (at_start r) a x v w''' A
      ∙ stage_around s w' w'' g h.stages.ground around
      ∙ sym (starts.stage_read s w g to r w' is K ms G h)

  -- theorem: the texts of the table
  pub texts-last : texts s w''' g.m ≡ texts s w g.m
  texts-last =
      texts-stay s g r.pile lim ps w'' (at_start r) a x v w''' A
      ∙ texts-around s w' w'' g h.stages.ground around
      ∙ sym (starts.texts-read s w g to r w' is K ms G h)

  pile_last : (starts.slots s w g to r w' is K ms G h).pile ≡ down (key_at w''' g) r.pile
  pile_last =
      (starts.held s w g to r w' is K ms G h).pile
      ∙ sym (pile_same s w' w'' g r.pile h.stages.ground records heads k)
      ∙ sym (down-same (key_at w''' g) (key_at w'' g) r.pile A.pile)

  -- theorem: the keys
  pub keys_last : (replaced_by is K).1.keys ≡ map (printed_at s w''' g) (down (key_at w''' g) r.pile) ++ K
  keys_last =
      (starts.round s w g to r w' is K ms G h).keys
      ∙ ap (λ (ps : List ℕ). map (print_at false g.width.bytes (stage_in w g) (texts s w g.m)) ps ++ K) pile_last
      ∙ sym (ap (λ (st : List ℕ). map (print_at false g.width.bytes st (texts s w g.m)) (down (key_at w''' g) r.pile) ++ K) stage_last)
      ∙ sym (ap (λ (ts : List Text). map (print_at false g.width.bytes (stage_in w''' g) ts) (down (key_at w''' g) r.pile) ++ K) texts-last)
