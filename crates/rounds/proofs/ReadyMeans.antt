-- THE THEOREM: items that stand in work at the beginning of a round are read to the end of the stage, and are turns of the replacing run. Assumes nothing.
use mathlib.Core.Path.{◌≡◌, refl, sym, ap, ◌∙◌, subst}
use mathlib.Core.Bool.{Bool, false}
use mathlib.Core.List.{List, [], ◌∷◌, ◌++◌, append-nil}
use Prim.Native.Nat.{ℕ, zero, suc, ◌+◌, ◌≤◌}
use native.Mathlib.Omega.{arith}
use borrow.Author.Tests.{le-leb, lt-leb}
use lib.ListN.{length}
use lib.Seq.{drop-length}
use Rattle.octets.specs.Plain.Numbers.{Bytes}
use Rattle.octets.specs.Plain.Runs.{Lies}
use Rattle.octets.proofs.LiesLaws.{lies_split, lies_inside, lies_part}
use Rattle.parse_tree.specs.Plain.Tree.{Text, Item}
use Rattle.parse_tree.specs.Plain.Reading.{got, then}
use Rattle.parse_tree.specs.Plain.WriteTape.{bytes_of_each}
use Rattle.parse_tree.specs.Working.Decode.{read_items}
use Rattle.parse_tree.specs.Working.Encode.{item_bytes}
use Rattle.parse_tree.specs.Working.Within.{Each, ItemWithin}
use Rattle.parse_tree.proofs.ItemBack.{item_reads}
use Rattle.parse_tree.proofs.ReadBack.{item_size}
use Rattle.texts.specs.Fields.{Chained}
use Rattle.texts.specs.Table.{texts}
use Rattle.passes.specs.Macros.{without_macros}
use Rattle.replacing.specs.Trees.{expanded_items}
use Rattle.expander.specs.declared.Ground.{Ground}
use Rattle.expander.specs.Ground.{size_in, stage_in, list_place, Grounded}
use Rattle.expander.specs.Stage.{Writable, SomeStage}
use Rattle.expander.proofs.StageReads.{bytes_part}
use Rattle.expander.proofs.WalksMean.{walks_mean}

-- ---- lists

-- all of a list lies in it
lies_all : (t : List ℕ) → Lies t 0 t (length t)
lies_all t = record { is = sym (append-nil t) ∙ ap (λ (l : List ℕ). t ++ l) (sym (drop-length t)); end = omega arith }

-- items that lie in t up to its end are read: as many steps as there are items do
items_read : (four : Bool) (wd : ℕ) (t : List ℕ) (ts : List Text) (is : List Item) → Each (ItemWithin four wd ts) is → (n a e : ℕ) → length is ≤ n → e ≡ length t
    → Lies t a (bytes_of_each (item_bytes wd ts) is) e → read_items four wd t ts n a ≡ got is e
unfolding read_items then bytes_of_each
items_read four wd t ts [] h zero a e k z l = let y : e ≡ a = omega (arith, l.end) in cc
items_read four wd t ts [] h (suc n) a e k z l =
    let y : e ≡ a = omega (arith, l.end) in
    cc (le-leb (length t) a (omega arith))
items_read four wd t ts (i ∷ is) h zero a e k z l = absurd (omega arith)
items_read four wd t ts (i ∷ is) h (suc n) a e k z l =
    let m = lies_split t a e (item_bytes wd ts i) (bytes_of_each (item_bytes wd ts) is) l in
    let x = item_size wd ts i in
    let y = lies_inside t a (a + length (item_bytes wd ts i)) (item_bytes wd ts i) x m.0 in
    cc (
      lt-leb (length t) a (omega arith),
      item_reads four wd t ts i h.0 a (a + length (item_bytes wd ts i)) m.0,
      items_read four wd t ts is h.1 n (a + length (item_bytes wd ts i)) e (omega arith) z m.1,
    )

-- ---- the stage

-- it is what lies there
pub stage_is : (w : List ℕ) (g : Ground) (xs : List ℕ) → Lies w g.from xs g.end → stage_in w g ≡ xs
unfolding stage_in
stage_is w g xs l = lies_part w g.from g.end xs l

pub stage_bytes_lem : (s w : List ℕ) (g : Ground) → Grounded s w g → Bytes w → Bytes (stage_in w g)
unfolding stage_in
stage_bytes_lem s w g G b = bytes_part w g.from g.end b G.inside

-- what lies there lies in all of the stage
pub stage_lies : (w : List ℕ) (g : Ground) (xs : List ℕ) → Lies w g.from xs g.end → Lies (stage_in w g) 0 xs (length (stage_in w g))
stage_lies w g xs l = subst (λ (t : List ℕ). Lies t 0 xs (length t)) (sym (stage_is w g xs l)) (lies_all xs)

-- theorem: items that stand are read
pub stage_read : (s w : List ℕ) (g : Ground) (is : List Item) → Grounded s w g → Lies w g.from (bytes_of_each (item_bytes g.width.bytes (texts s w g.m)) is) g.end
    → Each (ItemWithin false g.width.bytes (texts s w g.m)) is
    → (n : ℕ) × (read_items false g.width.bytes (stage_in w g) (texts s w g.m) n 0 ≡ got is (length (stage_in w g)))
stage_read s w g is G l h = (
  length is,
  items_read false g.width.bytes (stage_in w g) (texts s w g.m) is h (length is) 0 (length (stage_in w g)) (omega arith) refl
      (stage_lies w g (bytes_of_each (item_bytes g.width.bytes (texts s w g.m)) is) l),
)

-- fewer new texts need less room
list_fewer : (g : Ground) (n m : ℕ) → n ≤ m → list_place g m ≤ g.keys → list_place g n ≤ g.keys
list_fewer g n m i h = omega (arith, h)

-- theorem: and they are turns of the run
pub stage_some : (s w : List ℕ) (g : Ground) (to : ℕ) (is : List Item) → Grounded s w g → Bytes (stage_in w g)
    → Lies w g.from (bytes_of_each (item_bytes g.width.bytes (texts s w g.m)) is) g.end → Each (ItemWithin false g.width.bytes (texts s w g.m)) is
    → list_place g (length (expanded_items (without_macros is))) ≤ g.keys → Writable s w g to (size_in g) → Chained w g.keys g.buckets 0 → SomeStage s w g to
stage_some s w g to is G b l h r y c =
    let u = stage_read s w g is G l h in
    let v = walks_mean g.width.bytes (stage_in w g) (texts s w g.m) b G.distinct-texts u.0 is u.1 in
    record {
      turns = length (stage_in w g);
      left = v.0;
      walks = v.2;
      list = list_fewer g v.0 (length (expanded_items (without_macros is))) v.1 r;
      writable = y;
      empty = c;
    }
