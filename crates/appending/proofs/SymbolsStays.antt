-- Symbols that stand in the items stay where a piece is appended. Assumes nothing.
use mathlib.Core.Path.{◌≡◌, sym, subst}
use mathlib.Core.Bool.{Bool, true}
use mathlib.Core.Logic.{inl, inr}
use mathlib.Core.List.{List}
use Prim.Native.Nat.{ℕ, ◌+◌, ◌<◌, ◌≤◌}
use native.Mathlib.Omega.{arith}
use lib.ListN.{get_or}
use Rattle.octets.specs.Plain.Runs.{Lies}
use Rattle.parse_tree.specs.Plain.Tree.{Text, Syms}
use Rattle.parse_tree.specs.Working.Encode.{syms_bytes}
use Rattle.parse_tree.specs.Working.Within.{Each, SymsWithin}
use Rattle.texts.specs.Table.{Stays, texts}
use Rattle.texts.proofs.TableStays.{stays}
use Rattle.resolve.specs.Whole.{Apart}
use Rattle.resolve.proofs.CellsLaws.{lies_agree}
use Rattle.replacing.specs.Slots.{among}
use Rattle.expander.specs.declared.Ground.{Ground}
use Rattle.expander.specs.Ground.{size_in, top_of}
use Rattle.expander.specs.Replace.{keys_of_all}
use Rattle.expander.proofs.GroundLaws.{list_start}
use Rattle.appending.specs.declared.Appended.{Appended}
use Rattle.appending.specs.Pieces.{Piece, Appending, Appends}
use Rattle.appending.specs.Symbols.{Referring, SomeReferring}

module _ (s : List ℕ) (g : Ground) (n lim : ℕ) (ps : List ℕ) (w : List ℕ) (v : Appended) (h : Appending s g n lim ps w v) (x : Piece) (v' : Appended) (w' : List ℕ) (a : Appends s g n lim ps w v x v' w') where
  pub table_stays : Stays s w g.m w' g.m
  table_stays =
      let b = h.ground.narrower in
      stays s w w' g.m lim h.ground.table h.above a.long
      (record { agree = λ i j k. a.kept i (inr (inr j)) })
      (record { agree = λ i j k. a.kept i (inl (omega (arith, list_start g))) })
      (record { agree = λ i j k. a.kept i (inl (omega (arith, list_start g))) })

  -- theorem: the texts of the table
  pub texts-stay : texts s w' g.m ≡ texts s w g.m
  texts-stay = table_stays.same

  pub item_stays : (i : ℕ) → g.from ≤ i → i < g.end → get_or w' i 0 ≡ get_or w i 0
  item_stays i j k = go h.ground.off
    where
      go : Apart g.from g.end g.m.base (top_of g) → get_or w' i 0 ≡ get_or w i 0
      go (inl z) = a.kept i (inl (omega (arith, list_start g)))
      go (inr z) = a.kept i (inr (inl (omega arith, omega (arith, h.items))))

  pub lies_stays : (xs : List ℕ) (p e : ℕ) → e ≤ size_in g → Lies w (g.from + p) xs (g.from + e) → Lies w' (g.from + p) xs (g.from + e)
  unfolding size_in
  lies_stays xs p e i l =
      let o = h.ground.ordered in
      lies_agree w w' (g.from + p) (g.from + e) xs a.long (omega (arith, h.ground.inside)) (λ j b c. item_stays j (omega arith) (omega arith)) l

  -- theorem: symbols that stand there and have references
  pub referring_stays : (four : Bool) (left p e : ℕ) (ys : Syms) → Referring s w g ps four left p e ys → Referring s w' g ps four left p e ys
  referring_stays four left p e ys r = record {
    stand = record {
      within = subst (λ (ts : List Text). SymsWithin four g.width.bytes ts ys left) (sym texts-stay) r.stand.within;
      lies = subst (λ (ts : List Text). Lies w' (g.from + p) (syms_bytes g.width.bytes ts ys) (g.from + e)) (sym texts-stay) (lies_stays (syms_bytes g.width.bytes (texts s w g.m) ys) p e r.inside r.stand.lies);
    };
    inside = r.inside;
    levels = r.levels;
    referred = subst (λ (ts : List Text). Each (λ (q : ℕ). among q ps ≡ true) (keys_of_all g.width.bytes ts ys p)) (sym texts-stay) r.referred;
  }

-- theorem: and some of which no more is known
pub some_stays : (s w : List ℕ) (g : Ground) (n lim p k : ℕ) (v : Appended) (K : SomeReferring s w g n lim p k v) (x : Piece) (r : Appended) (w1 : List ℕ) → Appends s g n lim K.places w v x r w1 → SomeReferring s w1 g n lim p k r
some_stays s w g n lim p k v K x r w1 a = record {
  places = K.places;
  four = K.four;
  left = K.left;
  end = K.end;
  symbols = K.symbols;
  going = a.going;
  many = K.many;
  referring = referring_stays s g n lim K.places w v K.going x r w1 a K.four K.left p K.end K.symbols K.referring;
}
