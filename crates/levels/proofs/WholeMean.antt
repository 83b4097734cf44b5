-- The first of the items that are left in work: where it stands, what is read of it, and that an annotated one can be written level by level. Assumes nothing.
use mathlib.Core.Path.{◌≡◌, sym, ap, ◌∙◌}
use mathlib.Core.Bool.{Bool, true, false, false≢true}
use mathlib.Core.List.{List, [], ◌∷◌}
use Prim.Native.Nat.{ℕ, ◌+◌, ◌≤◌, ◌<◌}
use native.Mathlib.Omega.{arith}
use lib.ListN.{length}
use Rattle.octets.specs.Plain.Runs.{Lies}
use Rattle.octets.proofs.LiesLaws.{lies_to}
use Rattle.parse_tree.specs.Plain.Tree.{Text, Nonterminal, Source, extern, match, Item, item}
use Rattle.parse_tree.specs.Working.Encode.{item_bytes, source_code}
use Rattle.parse_tree.specs.Working.Within.{ItemWithin}
use Rattle.texts.specs.declared.Map.{Map}
use Rattle.texts.specs.Table.{texts}
use Rattle.passes.specs.Grades.{annotated}
use Rattle.resolve.specs.declared.Grammar.{Grammar}
use Rattle.resolve.specs.Items.{item_place_in}
use Rattle.resolve.proofs.GrammarLaws.{row_place, row_below, terminal_headed}
use Rattle.grades.specs.declared.Ids.{Ids}
use Rattle.grades.specs.Ids.{ids_in}
use Rattle.grades.specs.Annotations.{HeadInside, has_prec_attr}
use Rattle.grades.proofs.AlternativesMean.{has-means, head_inside, terminal_means}
use Rattle.levels.specs.declared.Room.{Room}
use Rattle.levels.specs.declared.Written.{Written}
use Rattle.levels.specs.Expand.{LevelsFit, Expandable, SomeExpandable}
use Rattle.levels.specs.Whole.{alternatives_in, ItemsLeft, SomeItems}

-- whether an item is written level by level
abbrev pub has_levels : Item → Bool
has_levels (item d) = annotated d
has_levels (Item.terminal sp o x) = false

-- ---- what is read of an item
source_other : (o : Source) → source_code o ≡ 16 → ⊥
source_other extern h = absurd (omega arith)
source_other match h = absurd (omega arith)

module _ (four : Bool) (wd : ℕ) (ts : List Text) (w : List ℕ) (p e : ℕ) where
  -- theorem: what the code looks at of it lies in work
  pub item_head_lem : (x : Item) → ItemWithin four wd ts x → Lies w p (item_bytes wd ts x) e → p + 16 ≤ length w → HeadInside wd w p
  item_head_lem (item d) h l k = head_inside four wd ts w p e d h l k
  item_head_lem (Item.terminal sp o x) h l k =
      let z = terminal_headed four w wd ts p sp o x e h.0 h.1.1 l in
      record { head = k; first = λ c n. absurd (source_other o (sym z.code ∙ c)) }

  -- theorem: an item has an annotation just where the tree says so
  pub item_annotated : (x : Item) → ItemWithin four wd ts x → Lies w p (item_bytes wd ts x) e → has_prec_attr wd (ids_in ts) w p ≡ has_levels x
  item_annotated (item d) h l = has-means four wd ts w p e d h l
  item_annotated (Item.terminal sp o x) h l = terminal_means four wd ts w p e sp o x h.0 h.1.1 l

-- theorem: the alternatives of the first and of the others
pub alternatives_split : (x : Item) (rest : List Item) → alternatives_in (x ∷ rest) ≡ alternatives_in (x ∷ []) + alternatives_in rest
unfolding alternatives_in
alternatives_split (item d) rest = omega arith
alternatives_split (Item.terminal sp o x) rest = omega arith

-- theorem: there is room for fewer names and alternatives where there is for more
pub laid_fewer : (m : Map) (room : Room) (most n long most' n' : ℕ) → most' ≤ most → n' ≤ n → LevelsFit m room most n long → LevelsFit m room most' n' long
laid_fewer m room most n long most' n' h k l = record {
  heads = l.heads;
  names = omega (arith, l.names);
  few = omega (arith, l.few);
  arrays = omega (arith, l.arrays);
  ordered = l.ordered;
  inside = l.inside;
  narrow = l.narrow;
}

module _ (s : List ℕ) (m : Map) (t : Grammar) (room : Room) (ids : Ids) (i : ℕ) (v : Written) (w : List ℕ) (four : Bool) (x : Item) (rest : List Item)
    (L : ItemsLeft s m t room ids i v w four (x ∷ rest)) where
  -- theorem: the next one stands behind it
  pub next_place : item_place_in t w (i + 1) ≡ item_place_in t w i + length (item_bytes t.width.bytes (texts s w m) x)
  next_place = row_place t (texts s w m) w (i + 1) (item_place_in t w i + length (item_bytes t.width.bytes (texts s w m) x)) rest L.row.2

  -- theorem: its bytes stand between the two places
  pub first_lies : Lies w (item_place_in t w i) (item_bytes t.width.bytes (texts s w m) x) (item_place_in t w (i + 1))
  first_lies = lies_to (sym next_place) L.row.1

  -- theorem: it ends before the records
  pub end_before : item_place_in t w (i + 1) ≤ m.base
  end_before = omega (arith, row_below t (texts s w m) w (i + 1) (item_place_in t w i + length (item_bytes t.width.bytes (texts s w m) x)) rest L.row.2, next_place, L.before.items)

  -- theorem: the records stand before the items that are written
  pub base_before : m.base ≤ room.at
  base_before = omega (arith, L.laid.heads, L.laid.arrays)

  -- theorem: what the code looks at of it lies in work
  pub first_head : HeadInside t.width.bytes w (item_place_in t w i)
  first_head = item_head_lem four t.width.bytes (texts s w m) w (item_place_in t w i) (item_place_in t w (i + 1)) x L.within.0 first_lies (omega (arith, end_before, next_place, base_before, L.laid.ordered, L.laid.inside))

  -- theorem: by the ids that were found it is annotated just where the tree says so
  pub first_annotated : t.width.bytes ≤ 3 → has_prec_attr t.width.bytes ids w (item_place_in t w i) ≡ has_levels x
  first_annotated n =
      ap (λ (a : Ids). has_prec_attr t.width.bytes a w (item_place_in t w i)) L.names.ids_table
      ∙ item_annotated four t.width.bytes (texts s w m) w (item_place_in t w i) (item_place_in t w (i + 1)) x L.within.0 first_lies

-- theorem: a nonterminal that stands first among the items stands as `expand_nonterm` asks
pub first_stands : (s : List ℕ) (m : Map) (t : Grammar) (room : Room) (ids : Ids) (i : ℕ) (v : Written) (w : List ℕ) (four : Bool) (d : Nonterminal) (rest : List Item)
    → ItemsLeft s m t room ids i v w four (item d ∷ rest) → Expandable s m room t.width.bytes ids (item_place_in t w i) (item_place_in t w (i + 1)) v w four d
unfolding alternatives_in
first_stands s m t room ids i v w four d rest L = record {
  laid = laid_fewer m room (v.count + alternatives_in (item d ∷ rest)) (alternatives_in (item d ∷ rest)) (length w) (v.count + length d.alternatives) (length d.alternatives) (omega arith) (omega arith) L.laid;
  stood = record {
    within = L.within.0;
    lies = first_lies s m t room ids i v w four (item d) rest L;
    before = end_before s m t room ids i v w four (item d) rest L;
  };
  names = L.names;
  from = L.from;
  upto = L.upto;
}

-- ---- what `expand_item` asks of the functions that it calls
-- the items that are left have a first one
pub record First (s : List ℕ) (m : Map) (t : Grammar) (room : Room) (ids : Ids) (i : ℕ) (v : Written) (w : List ℕ) : Type 0 where
  pub four : Bool
  pub item : Item
  pub rest : List Item
  pub left : ItemsLeft s m t room ids i v w four (item ∷ rest)

first_of : (s : List ℕ) (m : Map) (t : Grammar) (room : Room) (ids : Ids) (i : ℕ) (v : Written) (w : List ℕ) (four : Bool) (is : List Item) → i < t.count → ItemsLeft s m t room ids i v w four is → First s m t room ids i v w
first_of s m t room ids i v w four [] h L = absurd (omega (arith, L.many))
first_of s m t room ids i v w four (x ∷ rest) h L = record { four = four; item = x; rest = rest; left = L }

module _ (s : List ℕ) (m : Map) (t : Grammar) (room : Room) (ids : Ids) (i : ℕ) (v : Written) (w : List ℕ) (g : SomeItems s m t room ids i v w) (h : i < t.count) where
  first : First s m t room ids i v w
  first = first_of s m t room ids i v w g.four g.items h g.left

  module _ (p : ℕ) (pp : p ≡ item_place_in t w i) where
    -- theorem: of `has_prec_attr`
    pub items_head : HeadInside t.width.bytes w p
    items_head = rw pp (first_head s m t room ids i v w first.four first.item first.rest first.left)

    module _ (e : ℕ) (pe : e ≡ item_place_in t w (i + 1)) where
      -- theorem: of `put_run`, that the item's end is behind its place
      pub items_forward : p ≤ e
      items_forward = omega (arith, pp, pe, next_place s m t room ids i v w first.four first.item first.rest first.left)

      -- theorem: and before what is written
      pub items_behind : e ≤ v.to
      items_behind = omega (
        arith,
        pe,
        end_before s m t room ids i v w first.four first.item first.rest first.left,
        base_before s m t room ids i v w first.four first.item first.rest first.left,
        g.left.from,
      )

-- theorem: of `expand_nonterm`. b is what `has_prec_attr` answered; it stands first, so that a search can be given it
pub items_standing : (b : Bool) (s : List ℕ) (m : Map) (t : Grammar) (room : Room) (ids : Ids) (i : ℕ) (v : Written) (w : List ℕ) → SomeItems s m t room ids i v w → i < t.count → (p : ℕ) → p ≡ item_place_in t w i
    → (e : ℕ) → e ≡ item_place_in t w (i + 1) → t.width.bytes ≤ 3 → b ≡ has_prec_attr t.width.bytes ids w p → b ≡ true → SomeExpandable s m room t.width.bytes ids p e v w
items_standing b s m t room ids i v w g h p pp e pe n z y =
    let f = first_of s m t room ids i v w g.four g.items h g.left in
    let a : has_levels f.item ≡ true = sym (first_annotated s m t room ids i v w f.four f.item f.rest f.left n) ∙ ap (has_prec_attr t.width.bytes ids w) (sym pp) ∙ sym z ∙ y in
    rw (pp, pe) (go f.four f.item f.rest f.left a)
  where
    go : (four : Bool) (x : Item) (rest : List Item) → ItemsLeft s m t room ids i v w four (x ∷ rest) → has_levels x ≡ true → SomeExpandable s m room t.width.bytes ids (item_place_in t w i) (item_place_in t w (i + 1)) v w
    go four (item d) rest L a = record { four = four; nonterminal = d; standing = first_stands s m t room ids i v w four d rest L }
    go four (Item.terminal sp o x) rest L a = absurd (false≢true a)
