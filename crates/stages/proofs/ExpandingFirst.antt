-- What stands in work where the first round begins: an admitted stage, its macros told in the cells of their names. Assumes nothing.
use mathlib.Core.Path.{◌≡◌, refl, sym, ◌∙◌, subst}
use mathlib.Core.Bool.{Bool}
use mathlib.Core.Logic.{◌⊎◌, inl, inr}
use mathlib.Core.List.{List, [], ◌∷◌, ◌++◌}
use Prim.Native.Nat.{ℕ, ◌+◌, ◌*◌, ◌≤◌, ◌<◌}
use native.Mathlib.Omega.{arith}
use borrow.Author.Tests.{lt-leb}
use lib.ListN.{length, length-append}
use Rattle.octets.specs.Plain.Runs.{Lies}
use Rattle.octets.proofs.LiesLaws.{lies_none, lies_append, lies_to}
use Rattle.parse_tree.specs.Plain.Tree.{Text, Item}
use Rattle.parse_tree.specs.Plain.Texts.{has}
use Rattle.parse_tree.specs.Plain.WriteTape.{bytes_of_each}
use Rattle.parse_tree.specs.Working.Encode.{item_bytes}
use Rattle.texts.specs.declared.Map.{Map}
use Rattle.texts.specs.Fields.{cell_at}
use Rattle.texts.specs.Table.{Above, texts}
use Rattle.validate.proofs.NotesCode.{item_long}
use Rattle.passes.specs.Outcome.{Tree}
use Rattle.resolve.specs.declared.Grammar.{Grammar}
use Rattle.resolve.specs.Items.{Row}
use Rattle.macro_expand.specs.Drain.{DefinedAt}
use Rattle.rounds.specs.declared.Room.{Room}
use Rattle.rounds.specs.Define.{Items, SomeDeclared, Defined}
use Rattle.rounds.specs.Steps.{numbers_at_start}
use Rattle.rounds.specs.Standing.{DefinesMacros, Tabled, RoundStands}
use Rattle.rounds.proofs.DefineMeans.{defined-items, defined-found}
use Rattle.stages.specs.Expanding.{first_trees, FirstStands}

-- ---- items at their places stand one behind another
row_lies : (t : Grammar) (ts : List Text) (w : List ℕ) (i p : ℕ) (xs : List Item) → Row t ts w i p xs → Lies w p (bytes_of_each (item_bytes t.width.bytes ts) xs) t.end
unfolding bytes_of_each
row_lies t ts w i p [] h = lies_to h.1 (lies_none w p)
row_lies t ts w i p (x ∷ xs) h = lies_append h.1 (row_lies t ts w (i + 1) (p + length (item_bytes t.width.bytes ts x)) xs h.2)

eleven : (ts : List Text) (R : Tree) → 0 < length R → 11 ≤ length (bytes_of_each (item_bytes 2 ts) R)
unfolding bytes_of_each
eleven ts [] l = absurd (omega arith)
eleven ts (x ∷ R) l = omega (arith, item_long 2 ts x (omega arith), length-append (item_bytes 2 ts x) (bytes_of_each (item_bytes 2 ts) R))

module _ (s w : List ℕ) (m : Map) (t : Grammar) (room : Room) (low : ℕ) (four : Bool) (G : Tree) (first past : List Text) (owed : ℕ) (F : FirstStands s w m t room low four G first past owed) where
  -- theorem: macros can be told
  pub first_declared : SomeDeclared s w m t
  first_declared = record { four = four; tree = G; items = F.items }

  module _ (w' : List ℕ) (d : Defined s w m t w') where
    items_now : Items s w' m t four G
    items_now = defined-items s w m t w' d four G F.items

    texts-now : texts s w' m ≡ first ++ past
    texts-now = d.cells.same ∙ F.texts-are

    above_now : Above s w' m low
    above_now = record { above = λ i h. subst (λ (x : ℕ). (x < 4 * length s) ⊎ (low ≤ x + 4 * length s)) (sym (d.cells.marks i h)) (F.above.above i h) }

    tabled : Tabled s w' m low (first ++ past) []
    unfolding has
    tabled = record {
      table = d.cells.table;
      some = F.buckets;
      narrower = F.narrower;
      texts-are = texts-now;
      above = above_now;
      marks = λ k l y. lt-leb 2147483648 (cell_at w' m.base k) (d.low k l);
    }

    row_now : Row t (first ++ past) w' 0 t.at G
    row_now = subst (λ (us : List Text). Row t us w' 0 t.at G) texts-now items_now.row

    defines : DefinesMacros w' room t m (first ++ past) G
    defines = record {
      row = row_now;
      within = F.grown.within;
      many = F.items.many;
      width = F.width;
      off = F.off;
      list = F.items.list;
      found = λ n D e. subst (λ (us : List Text). DefinedAt us m w' G n D) texts-now (defined-found s w m t w' d four G F.items n D e);
    }

    items_lie : Lies w' t.at (bytes_of_each (item_bytes 2 (first ++ past)) G) t.end
    items_lie = subst (λ (n : ℕ). Lies w' t.at (bytes_of_each (item_bytes n (first ++ past)) G) t.end) F.width (row_lies t (first ++ past) w' 0 t.at G row_now)

    off_now : (t.end ≤ m.base) ⊎ ((room.x ≤ t.at) × (t.end ≤ room.y))
    off_now = go F.off
      where
        go : (t.end ≤ m.base) ⊎ ((room.x + room.cap ≤ t.at) × (t.end ≤ room.y)) → (t.end ≤ m.base) ⊎ ((room.x ≤ t.at) × (t.end ≤ room.y))
        go (inl h) = inl h
        go (inr h) = inr (omega (arith, h.0), h.1)

    -- theorem: the first round begins
    pub first_stands : RoundStands s w' room t (record { expander = numbers_at_start t.count; m = m; from = t.at; end = t.end; done = room.y; low = low }) (first_trees G first past owed)
    unfolding bytes_of_each
    first_stands = record {
      numbers = record { height = refl; round = refl; items = omega (arith, defines.many); few = omega arith };
      map = rw d.cells.long F.map;
      first = F.atoms;
      grown = F.grown;
      tabled = tabled;
      defines = defines;
      stored = record { old_lie = lies_none w' room.y; past_fills = F.past_fills };
      items_lie = items_lie;
      long = omega (arith, items_lie.end, eleven (first ++ past) G F.some);
      off = off_now;
    }
