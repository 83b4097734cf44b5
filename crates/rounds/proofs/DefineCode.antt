-- The ways out of the functions that tell all macros. Assumes nothing.
use mathlib.Core.Path.{◌≡◌, refl, sym, ap, ◌∙◌, subst}
use mathlib.Core.Bool.{Bool, true, false, cond, false≢true}
use mathlib.Core.Logic.{◌⊎◌, inl, inr}
use mathlib.Core.List.{List, [], ◌∷◌}
use mathlib.Core.Option.{Option, none, some}
use Prim.Native.Nat.{ℕ, suc, ◌+◌, ◌-◌, ◌≤◌, ◌<◌}
use native.Mathlib.Omega.{arith}
use borrow.Author.Rules.{rules}
use borrow.Author.Tests.{eqb-true, eqb-false}
use lib.Dec.{eqb}
use lib.ListN.{length, get_or, drop, drop_of_length-le}
use Rattle.octets.specs.Plain.Runs.{same_as}
use Rattle.octets.proofs.SameLaws.{same_as-eq, same_as-refl}
use Rattle.parse_tree.specs.Plain.Tree.{Text, Nonterminal, Item, item}
use Rattle.parse_tree.specs.Plain.Texts.{has, number}
use Rattle.parse_tree.proofs.TextLaws.{text_number}
use Rattle.texts.specs.declared.Map.{Map}
use Rattle.texts.specs.Fields.{cell_at}
use Rattle.texts.specs.Table.{Celled, Recelled, texts}
use Rattle.texts.proofs.TableStays.{recelled_same, recelled_trans}
use Rattle.passes.specs.Outcome.{Tree}
use Rattle.passes.specs.Macros.{macro_in}
use Rattle.resolve.specs.declared.Grammar.{Grammar}
use Rattle.resolve.specs.Items.{item_place_in}
use Rattle.macro_expand.specs.Drain.{item_of}
use Rattle.rounds.specs.Define.{Cells, Forgot, Items, SomeDeclared, FoundAt, Defined, Definable, Headable, defined_at}
use Rattle.rounds.proofs.DefineCells.{celled_one, recelled_one}
use Rattle.rounds.proofs.DefineMacro.{items_stay, item_there, some_is, macro_name, item_within, items_headable, Plain, Told, told}

-- the macros among the items from the i-th on are told
abbrev FoundFrom : List Text → Map → List ℕ → Tree → ℕ → Type 0
FoundFrom ts m w G i = (n : Text) (D : Nonterminal) → macro_in (drop i G) n ≡ some D → FoundAt ts m w G n D

-- ---- one item more
module _ (s w : List ℕ) (m : Map) (t : Grammar) (i : ℕ) (l : i < t.count) (w' : List ℕ) (o : w' ≡ defined_at m t.width.bytes w (item_place_in t w i) i) where
  module _ (four : Bool) (G : Tree) (h : Items s w m t four G) where
    abbrev ts : List Text
    ts = texts s w m

    number-few : i + 1 < 4294967296
    number-few = omega (arith, h.few)

    told_cell : (x : Item) → (d : Told s w m t four G h i w' o x) → Celled s w m (number ts d.def.name) (i + 1) w'
    told_cell x d = celled_one s w w' m h.cells (number ts d.def.name) (i + 1) d.below number-few d.stored

    step-cells : (x : Item) → Plain s w m t four G h i w' o x ⊎ Told s w m t four G h i w' o x → Recelled s w m w'
    step-cells x (inl a) = subst (Recelled s w m) (sym a.same) (recelled_same s w m h.cells.table)
    step-cells x (inr d) = recelled_one s w w' m h.cells (number ts d.def.name) (i + 1) d.below number-few d.stored

    step-low : (x : Item) → Plain s w m t four G h i w' o x ⊎ Told s w m t four G h i w' o x → (k : ℕ) → cell_at w m.base k < 2147483648 → cell_at w' m.base k < 2147483648
    step-low x (inl a) k f = rw a.same f
    step-low x (inr d) k f = go (eqb k (number ts d.def.name)) refl
      where
        go : (b : Bool) → eqb k (number ts d.def.name) ≡ b → cell_at w' m.base k < 2147483648
        go true z =
            let y = ap (cell_at w' m.base) (eqb-true k (number ts d.def.name) z) ∙ (told_cell x d).cell in
            omega (arith, y, h.few)
        go false z = let y = (told_cell x d).cells k (eqb-false k (number ts d.def.name) z) in omega (arith, y, f)

    -- another name has another number
    apart : (a n : Text) → has a ts ≡ true → has n ts ≡ true → same_as a n ≡ false → number ts n ≡ number ts a → ⊥
    apart a n p q z e =
        let y : a ≡ n = sym (text_number ts a p) ∙ ap (λ (k : ℕ). get_or ts k []) (sym e) ∙ text_number ts n q in
        false≢true (sym z ∙ ap (same_as a) (sym y) ∙ same_as-refl a)

    found_there : (n : Text) (D : Nonterminal) (rest : Tree) → macro_in rest n ≡ some D → FoundAt ts m w G n D → has n ts ≡ true
    found_there n D rest e f = subst (λ (a : Text). has a ts ≡ true) (macro_name rest n D e) (item_within s w m t four G h f.index (item D) f.there).name.0

    step-found : (x : Item) → item_of G i ≡ some x → drop i G ≡ x ∷ drop (suc i) G → Plain s w m t four G h i w' o x ⊎ Told s w m t four G h i w' o x
        → FoundFrom ts m w G (suc i) → FoundFrom ts m w' G i
    step-found x e q (inl a) f n D z =
        subst (λ (v : List ℕ). FoundAt ts m v G n D) (sym a.same) (f n D (sym (ap (λ (r : Tree). macro_in r n) q ∙ a.skipped (drop (suc i) G) n) ∙ z))
    step-found x e q (inr d) f n D z = go (same_as d.def.name n) refl (sym (ap (λ (r : Tree). macro_in r n) q ∙ d.first (drop (suc i) G) n) ∙ z)
      where
        go : (b : Bool) → same_as d.def.name n ≡ b → cond b (some d.def) (macro_in (drop (suc i) G) n) ≡ some D → FoundAt ts m w' G n D
        go true k y =
            let a : d.def.name ≡ n = same_as-eq d.def.name n k in
            let c = some_is d.def D y in
            record {
              index = i;
              there = e ∙ ap some (d.is ∙ ap item c);
              below = subst (λ (r : Text). number ts r < m.count) a d.below;
              cell = subst (λ (r : Text). cell_at w' m.base (number ts r) ≡ i + 1) a (told_cell x d).cell;
            }
        go false k y =
            let r = f n D y in
            let c = apart d.def.name n d.there (found_there n D (drop (suc i) G) y r) k in
            record {
              index = r.index;
              there = r.there;
              below = r.below;
              cell = (told_cell x d).cells (number ts n) c ∙ r.cell;
            }

    pub one_cells : Recelled s w m w'
    one_cells = let z = item_there G i (omega (arith, h.many)) in step-cells z.0 (told s w m t four G h i w' o z.0 z.1)

    pub one_low : (k : ℕ) → cell_at w m.base k < 2147483648 → cell_at w' m.base k < 2147483648
    one_low = let z = item_there G i (omega (arith, h.many)) in step-low z.0 (told s w m t four G h i w' o z.0 z.1)

    pub one_found : FoundFrom ts m w G (suc i) → FoundFrom ts m w' G i
    one_found = let z = item_there G i (omega (arith, h.many)) in step-found z.0 z.1 z.2 (told s w m t four G h i w' o z.0 z.1)

-- ---- define_items: those from the i-th on are told
pub record Defining (s w : List ℕ) (m : Map) (t : Grammar) (w' : List ℕ) (i : ℕ) : Type 0 where
  pub some_items : SomeDeclared s w m t
  pub upto : i ≤ t.count
  pub cells : Recelled s w m w'
  pub low : (k : ℕ) → k < m.count → cell_at w' m.base k < 2147483648
  pub found : (four : Bool) (G : Tree) → Items s w m t four G → (n : Text) (D : Nonterminal) → macro_in (drop i G) n ≡ some D → FoundAt (texts s w m) m w' G n D

none≢some : {A : Type 0} (a : A) → ◌≡◌ {A = Option A} none (some a) → ⊥
none≢some a e = let z : ◌≡◌ {A = ℕ} 0 1 = cc in omega arith

pub defining_start : (s w : List ℕ) (m : Map) (t : Grammar) → Definable s w m t → Defining s w m t w t.count
defining_start s w m t h = record {
  some_items = h.some;
  upto = omega arith;
  cells = recelled_same s w m h.some.items.cells.table;
  low = h.low;
  found = λ four G g n D e. absurd (none≢some D (sym (ap (λ (r : Tree). macro_in r n) (drop_of_length-le G {i = t.count} (omega (arith, g.many)))) ∙ e));
}

module _ (s w : List ℕ) (m : Map) (t : Grammar) (w' : List ℕ) (i : ℕ) (g : Defining s w m t w' i) where
  pub defining_same : length w' ≡ length w
  defining_same = g.cells.long

  pub defining_done : i ≤ 0 → Defined s w m t w'
  defining_done h =
      let z : i ≡ 0 = omega arith in
      record { cells = g.cells; low = g.low; found = λ four G a n D e. g.found four G a n D (ap (λ (k : ℕ). macro_in (drop k G) n) z ∙ e) }

  module _ (h : 0 < i) where
    last_less : i - 1 < t.count
    last_less = omega (arith, g.upto)

    abbrev now_items : (four : Bool) (G : Tree) → Items s w m t four G → Items s w' m t four G
    now_items four G a = items_stay s w w' m t four G a g.cells

    pub defining_headable : Headable w' m t (i - 1)
    defining_headable =
        let a = g.some_items in
        items_headable s w' m t a.four a.tree (now_items a.four a.tree a.items) (i - 1) last_less

    pub defining_next : (w'' : List ℕ) → w'' ≡ defined_at m t.width.bytes w' (item_place_in t w' (i - 1)) (i - 1) → Defining s w m t w'' (i - 1)
    defining_next w'' o =
        let a = g.some_items in
        let b = now_items a.four a.tree a.items in
        record {
          some_items = a;
          upto = omega (arith, g.upto);
          cells = recelled_trans s w w' w'' m g.cells (one_cells s w' m t (i - 1) last_less w'' o a.four a.tree b);
          low = λ k l. one_low s w' m t (i - 1) last_less w'' o a.four a.tree b k (g.low k l);
          found = λ four G c n D e. subst (λ (ts : List Text). FoundAt ts m w'' G n D) g.cells.same
              (one_found s w' m t (i - 1) last_less w'' o four G (now_items four G c) (before four G c) n D e);
        }
      where
        before : (four : Bool) (G : Tree) → Items s w m t four G → (n : Text) (D : Nonterminal) → macro_in (drop (suc (i - 1)) G) n ≡ some D → FoundAt (texts s w' m) m w' G n D
        before four G c n D e =
            let z : suc (i - 1) ≡ i = omega arith in
            subst (λ (ts : List Text). FoundAt ts m w' G n D) (sym g.cells.same) (g.found four G c n D (ap (λ (k : ℕ). macro_in (drop k G) n) (sym z) ∙ e))

pub ruleset defining = (rules, defining_start, defining_same, defining_done, defining_headable, defining_next)

-- ---- define
module _ (s w : List ℕ) (m : Map) (t : Grammar) (w' : List ℕ) (f : Forgot s w m w') where
  pub define_cells : SomeDeclared s w m t → Definable s w' m t
  define_cells h = record {
    some = record { four = h.four; tree = h.tree; items = items_stay s w w' m t h.four h.tree h.items f.cells };
    low = λ k l. omega (arith, f.none k l);
  }

  pub define_done : (w'' : List ℕ) → Defined s w' m t w'' → Defined s w m t w''
  define_done w'' d = record {
    cells = recelled_trans s w w' w'' m f.cells d.cells;
    low = d.low;
    found = λ four G a n D e. subst (λ (ts : List Text). FoundAt ts m w'' G n D) f.cells.same (d.found four G (items_stay s w w' m t four G a f.cells) n D e);
  }

pub define_asks : (s w : List ℕ) (m : Map) (t : Grammar) → SomeDeclared s w m t → Cells s w m
define_asks s w m t h = h.items.cells

pub ruleset defined = (rules, define_cells, define_done, define_asks)
