-- What the i-th item says, where items stand in work, and what telling it does. Assumes nothing.
use mathlib.Core.Path.{◌≡◌, refl, sym, ap, ◌∙◌, subst}
use mathlib.Core.Bool.{Bool, true, false, cond, ◌&&◌}
use mathlib.Core.Logic.{◌⊎◌, inl, inr}
use mathlib.Core.List.{List, [], ◌∷◌}
use mathlib.Core.Option.{Option, none, some}
use Prim.Native.Nat.{ℕ, zero, suc, ◌+◌, ◌*◌, ◌≤◌, ◌<◌}
use native.Mathlib.Omega.{arith}
use borrow.Author.Tests.{eq-eqb, ne_eqb}
use lib.ListN.{length, get_or, drop}
use Rattle.octets.specs.Working.Choice.{pick}
use Rattle.octets.specs.Plain.Numbers.{le}
use Rattle.octets.specs.Plain.Runs.{same_as}
use Rattle.octets.specs.Working.Stores.{store}
use Rattle.octets.proofs.SameLaws.{same_as-eq}
use Rattle.parse_tree.specs.Plain.Tree.{Text, Source, extern, match, Nonterminal, Item, item, terminal}
use Rattle.parse_tree.specs.Plain.Texts.{has, number}
use Rattle.parse_tree.specs.Working.Encode.{source_code}
use Rattle.parse_tree.specs.Working.Within.{Each, ItemWithin, NonterminalWithin}
use Rattle.parse_tree.specs.declared.syntax.Span.{Span}
use Rattle.parse_tree.proofs.TextLaws.{number-below}
use Rattle.texts.specs.declared.Map.{Map}
use Rattle.texts.specs.Table.{Recelled, texts}
use Rattle.texts.proofs.TextCode.{length_texts}
use Rattle.passes.specs.Outcome.{Tree}
use Rattle.passes.specs.Macros.{macro_in}
use Rattle.resolve.specs.declared.Grammar.{Grammar}
use Rattle.resolve.specs.Items.{item_place_in, Row}
use Rattle.resolve.proofs.GrammarLaws.{row_same, row_below, Headed, headed, terminal_headed}
use Rattle.macro_expand.specs.Drain.{item_of}
use Rattle.macro_expand.proofs.DrainLaws.{RowAt, row_at, within_at}
use Rattle.rounds.specs.Define.{Items, Headable, told_at, defined_at}
use Rattle.rounds.proofs.DefineCells.{cells_stay}

-- ---- the items stay where only cells are written
module _ (s w w' : List ℕ) (m : Map) (t : Grammar) (four : Bool) (G : Tree) (h : Items s w m t four G) (r : Recelled s w m w') where
  byte_same : (j : ℕ) → t.at ≤ j → j < t.end → (t.end ≤ m.base) ⊎ (m.base + 24 * m.count ≤ t.at) → get_or w' j 0 ≡ get_or w j 0
  byte_same j a b (inl x) = r.others j (inl (omega arith))
  byte_same j a b (inr x) = r.others j (inr (omega arith))

  pub items_stay : Items s w' m t four G
  items_stay = record {
    cells = cells_stay s w w' m h.cells r;
    row = subst (λ (ts : List Text). Row t ts w' 0 t.at G) (sym r.same)
        (row_same t (texts s w m) w w' r.long h.inside (λ i a b. r.others i (inl (omega (arith, h.list)))) 0 t.at G (λ j a b. byte_same j a b h.off) h.row);
    within = subst (λ (ts : List Text). Each (ItemWithin four t.width.bytes ts) G) (sym r.same) h.within;
    many = h.many;
    few = h.few;
    narrow = h.narrow;
    wide = h.wide;
    off = h.off;
    list = h.list;
    inside = rw r.long h.inside;
  }

-- ---- the macro of a name
pub item_there : (G : List Item) (i : ℕ) → i < length G → (x : Item) × (item_of G i ≡ some x) × (drop i G ≡ x ∷ drop (suc i) G)
unfolding item_of
item_there [] i l = absurd (omega arith)
item_there (y ∷ ys) zero l = (y, refl, refl)
item_there (y ∷ ys) (suc i) l = item_there ys i (omega arith)

abbrev some_args_lem : List Text → Bool
some_args_lem as' = elim as' [ [] ↦ false | p ∷ ps ↦ true ]

args_none : (as' : List Text) → length as' ≡ 0 → some_args_lem as' ≡ false
args_none [] e = refl
args_none (p ∷ ps) e = absurd (omega (arith, e))

args_some : (as' : List Text) → (length as' ≡ 0 → ⊥) → some_args_lem as' ≡ true
args_some [] n = absurd (n refl)
args_some (p ∷ ps) n = refl

cond_none : (b c : Bool) (x y : Option Nonterminal) → c ≡ false → cond (b && c) x y ≡ y
cond_none true c x y e = ap (λ (z : Bool). cond z x y) e
cond_none false c x y e = refl

cond_some : (b c : Bool) (x y : Option Nonterminal) → c ≡ true → cond (b && c) x y ≡ cond b x y
cond_some true c x y e = ap (λ (z : Bool). cond z x y) e
cond_some false c x y e = refl

pub some_is : {A : Type 0} (a b : A) → ◌≡◌ {A = Option A} (some a) (some b) → a ≡ b
some_is a b e = cc

none≢some : {A : Type 0} (a : A) → ◌≡◌ {A = Option A} none (some a) → ⊥
none≢some a e = let z : ◌≡◌ {A = ℕ} 0 1 = cc in omega arith

pub macro_name : (G : Tree) (n : Text) (D : Nonterminal) → macro_in G n ≡ some D → D.name ≡ n
macro_name [] n D e = absurd (none≢some D e)
macro_name (item d ∷ rest) n D e = go (same_as d.name n) refl (some_args_lem d.args) e (λ z. macro_name rest n D z)
  where
    go : (b : Bool) → same_as d.name n ≡ b → (c : Bool) → cond (b && c) (some d) (macro_in rest n) ≡ some D → (macro_in rest n ≡ some D → D.name ≡ n) → D.name ≡ n
    go true q true e f = ap (λ (z : Nonterminal). z.name) (sym (some_is d D e)) ∙ same_as-eq d.name n q
    go true q false e f = f e
    go false q c e f = f e
macro_name (Item.terminal sp o x ∷ rest) n D e = macro_name rest n D e

source_other : (o : Source) → source_code o ≡ 16 → ⊥
source_other extern e = omega (arith, e)
source_other match e = omega (arith, e)

-- ---- what the i-th item says
module _ (s w : List ℕ) (m : Map) (t : Grammar) (four : Bool) (G : Tree) (h : Items s w m t four G) where
  abbrev ts : List Text
  ts = texts s w m

  pub texts-many : length (texts s w m) ≡ m.count
  unfolding texts
  texts-many = length_texts s w m.base m.count

  module _ (i : ℕ) where
    abbrev p : ℕ
    p = item_place_in t w i

    stands : (x : Item) → item_of G i ≡ some x → RowAt t ts w i t.at x
    stands x e =
        let z : 0 + i ≡ i = omega arith in
        subst (λ (k : ℕ). RowAt t ts w k t.at x) z (row_at t ts w G 0 t.at i x h.row e)

    pub item_within : (x : Item) → item_of G i ≡ some x → ItemWithin four t.width.bytes ts x
    item_within x e = within_at t ts w four t.width.bytes ts G i x h.within e

    pub record Says (d : Nonterminal) : Type 0 where
      pub end : ℕ
      pub headed_is : Headed w t.width.bytes ts p d end
      pub upto : end ≤ length w
      pub within : NonterminalWithin four t.width.bytes ts d
      pub below : number ts d.name < m.count

    pub says : (d : Nonterminal) → item_of G i ≡ some (item d) → Says d
    says d e =
        let a = stands (item d) e in
        let b = item_within (item d) e in
        record {
          end = a.end;
          headed_is = headed four w t.width.bytes ts p d a.end b a.lies;
          upto = omega (arith, a.upto, h.inside);
          within = b;
          below = omega (arith, number-below ts d.name b.name.0, texts-many);
        }

    pub says_other : (sp : Span) (o : Source) (x : Text) → item_of G i ≡ some (terminal sp o x) → (get_or w p 0 ≡ 16 → ⊥) × (p < length w)
    says_other sp o x e =
        let a = stands (terminal sp o x) e in
        let b = item_within (terminal sp o x) e in
        let k = terminal_headed four w t.width.bytes ts p sp o x a.end b.0 b.1.1 a.lies in
        (λ q. source_other o (sym k.code ∙ q), omega (arith, a.upto, h.inside, k.rest.end))

    pub items_headable : i < t.count → Headable w m t i
    items_headable l = let z = item_there G i (omega (arith, h.many)) in go z.0 z.1
      where
        go : (x : Item) → item_of G i ≡ some x → Headable w m t i
        go (item d) e =
            let a = says d e in
            let u : p + 13 + t.width.bytes ≤ length w = omega (arith, a.upto, a.headed_is.alternatives.end) in
            record {
              list = omega (arith, h.list, h.cells.table.room);
              ordered = row_below t ts w 0 t.at G h.row;
              inside = omega arith;
              head = λ c. record {
                narrow = h.narrow;
                wide = h.wide;
                few = omega (arith, h.few);
                head = u;
                name = omega (arith, a.headed_is.name, a.below, h.cells.table.room);
              };
            }
        go (terminal sp o x) e = let a = says_other sp o x e in record {
          list = omega (arith, h.list, h.cells.table.room);
          ordered = row_below t ts w 0 t.at G h.row;
          inside = a.1;
          head = λ c. absurd (a.0 c);
        }

    -- ---- and what telling it does
    module _ (w' : List ℕ) (o : w' ≡ defined_at m t.width.bytes w p i) where
      pub record Plain (x : Item) : Type 0 where
        pub same : w' ≡ w
        pub skipped : (rest : Tree) (n : Text) → macro_in (x ∷ rest) n ≡ macro_in rest n

      pub record Told (x : Item) : Type 0 where
        pub def : Nonterminal
        pub is : x ≡ item def
        pub there : has def.name ts ≡ true
        pub below : number ts def.name < m.count
        pub stored : w' ≡ store w (m.base + 24 * number ts def.name + 20) (le 4 (i + 1))
        pub first : (rest : Tree) (n : Text) → macro_in (x ∷ rest) n ≡ cond (same_as def.name n) (some def) (macro_in rest n)

      told_plain : (d : Nonterminal) → Says d → length d.args ≡ 0 → Plain (item d)
      unfolding defined_at told_at pick
      told_plain d a z = record {
        same = o ∙ rw (eq-eqb (get_or w p 0) 16 a.headed_is.code, eq-eqb (get_or w (p + 10 + t.width.bytes) 0) 0 (a.headed_is.args ∙ z)) refl;
        skipped = λ rest n. cond_none (same_as d.name n) (some_args_lem d.args) (some d) (macro_in rest n) (args_none d.args z);
      }

      told_macro : (d : Nonterminal) → Says d → (length d.args ≡ 0 → ⊥) → Told (item d)
      unfolding defined_at told_at pick
      told_macro d a z = record {
        def = d;
        is = refl;
        there = a.within.name.0;
        below = a.below;
        stored = o
            ∙ rw (eq-eqb (get_or w p 0) 16 a.headed_is.code, ne_eqb (get_or w (p + 10 + t.width.bytes) 0) 0 (λ q. z (sym a.headed_is.args ∙ q)), a.headed_is.name) refl;
        first = λ rest n. cond_some (same_as d.name n) (some_args_lem d.args) (some d) (macro_in rest n) (args_some d.args z);
      }

      told_other : (sp : Span) (so : Source) (x : Text) → (get_or w p 0 ≡ 16 → ⊥) → Plain (terminal sp so x)
      unfolding defined_at told_at pick
      told_other sp so x n = record {
        same = o ∙ rw (ne_eqb (get_or w p 0) 16 n) refl;
        skipped = λ rest k. refl;
      }

      pub told : (x : Item) → item_of G i ≡ some x → Plain x ⊎ Told x
      told (item d) e = go (length d.args) refl
        where
          go : (k : ℕ) → length d.args ≡ k → Plain (item d) ⊎ Told (item d)
          go zero z = inl (told_plain d (says d e) z)
          go (suc k) z = inr (told_macro d (says d e) (λ q. omega (arith, q, z)))
      told (terminal sp so x) e = inl (told_other sp so x (says_other sp so x e).0)
