-- The numbers of the two attribute ids: they tell the ids of attributes, stay where other texts are added, and are what `ids` answers. Assumes nothing.
use mathlib.Core.Path.{◌≡◌, refl, sym, ap, ◌∙◌}
use mathlib.Core.Bool.{Bool, true, false, true≢false}
use mathlib.Core.List.{List, [], ◌∷◌, ◌++◌}
use Prim.Native.Nat.{ℕ, suc}
use Rattle.std.specs.Prelude.{Option, Some, None}
use lib.Dec.{eqb}
use Rattle.std.specs.Option.{option_eq}
use Rattle.octets.specs.Working.Choice.{pick}
use Rattle.octets.specs.Plain.Runs.{same_as}
use Rattle.octets.proofs.SameLaws.{same_as-eq}
use Rattle.parse_tree.specs.Plain.Tree.{Text}
use Rattle.parse_tree.specs.Plain.Texts.{has, number, distinct}
use Rattle.texts.specs.Table.{found_in}
use Rattle.texts.proofs.TableFindCode.{answer_is}
use Rattle.laws.proofs.Rename.{number-tells}
use Rattle.passes.specs.Grades.{precedence, assoc}
use Rattle.grades.specs.declared.Ids.{Ids}
use Rattle.grades.specs.Ids.{ids_in, Identified}

-- ---- which attributes are meant
not_there : (ts : List Text) (id x : Text) (b : Bool) → has x ts ≡ true → has id ts ≡ false → same_as id x ≡ b → b ≡ false
not_there ts id x true h e q = absurd (true≢false (sym h ∙ ap (λ (t : Text). has t ts) (sym (same_as-eq id x q)) ∙ e))
not_there ts id x false h e q = refl

-- theorem: a text has that number only if it is the id
pub id_tells : (ts : List Text) (id x : Text) → has x ts ≡ true → option_eq eqb (found_in ts id) (Some (number ts x)) ≡ same_as id x
unfolding found_in pick
id_tells ts id x h = go (has id ts) refl
  where
    go : (b : Bool) → has id ts ≡ b → option_eq eqb (pick b (Some (number ts id)) None) (Some (number ts x)) ≡ same_as id x
    go true e = number-tells ts x id h
    go false e = sym (not_there ts id x (same_as id x) h e refl)

-- ---- other texts behind
has-stays : (x : Text) (ts more : List Text) → has x more ≡ false → has x (ts ++ more) ≡ has x ts
unfolding has
has-stays x [] more h = h
has-stays x (t ∷ ts) more h = ap (λ (b : Bool). elim (same_as t x) [ true ↦ true | false ↦ b ]) (has-stays x ts more h)

number-stays : (x : Text) (ts more : List Text) → has x ts ≡ true → number (ts ++ more) x ≡ number ts x
unfolding has number
number-stays x [] more h = absurd (true≢false (sym h))
number-stays x (t ∷ ts) more h = go (same_as t x) h (number-stays x ts more)
  where
    go : (b : Bool) → elim b [ true ↦ true | false ↦ has x ts ] ≡ true → (has x ts ≡ true → number (ts ++ more) x ≡ number ts x)
        → ◌≡◌ {A = ℕ} (elim b [ true ↦ 0 | false ↦ suc (number (ts ++ more) x) ]) (elim b [ true ↦ 0 | false ↦ suc (number ts x) ])
    go true q f = refl
    go false q f = ap suc (f q)

-- theorem: the number of a text that is not among those behind
pub id_stays : (x : Text) (ts more : List Text) → has x more ≡ false → found_in (ts ++ more) x ≡ found_in ts x
unfolding found_in pick
id_stays x ts more h = ap (λ (b : Bool). pick b (Some (number (ts ++ more) x)) None) (has-stays x ts more h) ∙ go (has x ts) refl
  where
    go : (b : Bool) → has x ts ≡ b → pick b (Some (number (ts ++ more) x)) None ≡ pick b (Some (number ts x)) None
    go true e = ap Some (number-stays x ts more e)
    go false e = refl

-- theorem: and of both
pub ids_stay : (ts more : List Text) → has precedence more ≡ false → has assoc more ≡ false → ids_in (ts ++ more) ≡ ids_in ts
ids_stay ts more p a =
    ap (λ (x : Option ℕ). record { precedence = x; assoc = found_in (ts ++ more) assoc }) (id_stays precedence ts more p)
    ∙ ap (λ (x : Option ℕ). record { precedence = found_in ts precedence; assoc = x }) (id_stays assoc ts more a)

-- ---- what is answered
-- theorem: where no two texts are equal, the answer of `ids` is the only one
pub ids_are : (ts : List Text) (r : Ids) → distinct ts ≡ true → Identified ts r → r ≡ ids_in ts
ids_are ts r d f =
    ap (λ (x : Option ℕ). record { precedence = x; assoc = r.assoc }) (answer_is ts precedence r.precedence d f.level)
    ∙ ap (λ (x : Option ℕ). record { precedence = found_in ts precedence; assoc = x }) (answer_is ts assoc r.assoc d f.side)
