-- The name of a level: a text that is known then, with its number; what was known before is as it was. Assumes nothing.
use mathlib.Core.Path.{◌≡◌, refl, sym, ap, ◌∙◌}
use mathlib.Core.Bool.{Bool, true, false}
use mathlib.Core.List.{List, [], ◌∷◌}
use Prim.Native.Nat.{ℕ, ◌+◌, ◌-◌, ◌*◌, ◌≤◌, ◌<◌}
use native.Mathlib.Omega.{arith}
use lib.ListN.{length, get_or}
use Rattle.octets.specs.Plain.Runs.{same_as}
use Rattle.octets.proofs.SameLaws.{same_as-sym}
use Rattle.parse_tree.specs.Plain.Tree.{Text}
use Rattle.parse_tree.specs.Plain.Texts.{has, number, with_new}
use Rattle.parse_tree.proofs.TextLaws.{number-below, text_number}
use Rattle.texts.specs.declared.Map.{Map}
use Rattle.texts.specs.Fields.{mark_at}
use Rattle.texts.specs.Table.{texts}
use Rattle.texts.proofs.TextCode.{length_texts}
use Rattle.passes.specs.Grades.{precedence, assoc}
use Rattle.passes.specs.Levels.{level_name}
use Rattle.replacing.proofs.NumbersMean.{new_known, new_unknown}
use Rattle.replacing.proofs.Growing.{Extends, extends_has, extends_number}
use Rattle.grades.specs.declared.Ids.{Ids}
use Rattle.grades.specs.Ids.{ids_in}
use Rattle.grades.proofs.IdsMean.{ids_stay}
use Rattle.precedence.specs.declared.names.LevelName.{LevelName}
use Rattle.precedence.specs.Names.{LevelNamed, level_text, described_texts, named_texts}
use Rattle.precedence.proofs.NamesFindCode.{length_named}
use Rattle.precedence.proofs.NamesMean.{level_text_is, named-split}
use Rattle.precedence.proofs.NamesStays.{names_above}
use Rattle.levels.specs.declared.Room.{Room}
use Rattle.levels.specs.Expand.{NamesLevel, NamesAt}
use Rattle.replacing.proofs.ThereBytes.{new_has}
use Rattle.levels.proofs.Digits.{precedence-not_new, assoc-not_new}

-- theorem: the texts with names described begin with the table's
pub named-extends : (s w : List ℕ) (m : Map) (n : ℕ) → m.count ≤ n → Extends (texts s w m) (named_texts s w m n)
named-extends s w m n h =
    let z : n ≡ m.count + (n - m.count) = omega arith in
    record { more = described_texts s w m (n - m.count); is = ap (named_texts s w m) z ∙ named-split s w m (n - m.count) }

-- theorem: a text of the table has one of the table's numbers
pub number-in_table : (s w : List ℕ) (m : Map) (E : Text) → has E (texts s w m) ≡ true → number (texts s w m) E < m.count
unfolding texts
number-in_table s w m E h = omega (arith, number-below (texts s w m) E h, length_texts s w m.base m.count)

-- ---- the two ids
one_not : (id t : Text) → same_as id t ≡ false → has id (t ∷ []) ≡ false
unfolding has
one_not id t h = cc (same_as-sym t id ∙ h)

ids_later : (us : List Text) (t : Text) → same_as precedence t ≡ false → same_as assoc t ≡ false → ids_in (with_new us (t ∷ [])) ≡ ids_in us
ids_later us t p a = go (has t us) refl
  where
    go : (b : Bool) → has t us ≡ b → ids_in (with_new us (t ∷ [])) ≡ ids_in us
    go true e = ap ids_in (new_known us t e)
    go false e = ap ids_in (new_unknown us t e) ∙ ids_stay us (t ∷ []) (one_not precedence t p) (one_not assoc t a)

-- from w to w1 the text t was made known and has the number x .name; records grew to x.count, and nothing but records changed
pub record LevelKnown (s : List ℕ) (m : Map) (room : Room) (ids : Ids) (w : List ℕ) (n : ℕ) (t : Text) (x : LevelName) (w1 : List ℕ) : Type 0 where
  pub named : named_texts s w1 m x.count ≡ with_new (named_texts s w m n) (t ∷ [])
  pub least : n ≤ x.count
  pub most : x.count ≤ n + 1
  pub names : NamesAt s w1 m room ids x.count
  pub same : texts s w1 m ≡ texts s w m
  pub marks : (i : ℕ) → i < m.count → mark_at w1 m.base i ≡ mark_at w m.base i
  pub name : x.name ≡ number (named_texts s w1 m x.count) t
  pub before : (i : ℕ) → i < m.base → get_or w1 i 0 ≡ get_or w i 0
  pub after : (i : ℕ) → room.arrays ≤ i → get_or w1 i 0 ≡ get_or w i 0

module _ (s : List ℕ) (m : Map) (room : Room) (ids : Ids) (w : List ℕ) (n : ℕ) (g : NamesAt s w m room ids n) (heads : m.base + 24 * m.buckets ≤ room.arrays) (records : m.base + 24 * (n + 1) ≤ room.arrays)
    (E : Text) (base : ℕ) (there : has E (texts s w m) ≡ true) (is : base ≡ number (texts s w m) E) where
  -- the highest keeps the name
  kept-name : LevelKnown s m room ids w n E (record { name = base; count = n }) w
  kept-name =
      let x = named-extends s w m n g.naming.upto in
      record {
        named = sym (new_known (named_texts s w m n) E (extends_has (texts s w m) (named_texts s w m n) E x there));
        least = omega arith;
        most = omega arith;
        names = g;
        same = refl;
        marks = λ i h. refl;
        name = is ∙ sym (extends_number (texts s w m) (named_texts s w m n) E x there);
        before = λ i h. refl;
        after = λ i h. refl;
      }

  base_text : get_or (texts s w m) base [] ≡ E
  base_text = ap (λ (k : ℕ). get_or (texts s w m) k []) is ∙ text_number (texts s w m) E there

  -- another one appends the level
  new_name : (v u : ℕ) (us : List ℕ) (x : LevelName) (w1 : List ℕ) → LevelNamed s w m n base v x w1 → LevelKnown s m room ids w n (level_name E v (u ∷ us)) x w1
  new_name v u us x w1 f =
      let t : level_text s w m base v ≡ level_name E v (u ∷ us) = level_text_is s w m base v u us ∙ ap (λ (y : Text). level_name y v (u ∷ us)) base_text in
      let named : named_texts s w1 m x.count ≡ with_new (named_texts s w m n) (level_name E v (u ∷ us) ∷ []) = f.named ∙ ap (λ (y : Text). with_new (named_texts s w m n) (y ∷ [])) t in
      record {
        named = named;
        least = f.least;
        most = f.most;
        names = record {
          naming = f.naming;
          above = names_above s w m n (room.lim + 16) w1 g.naming.upto f.kept g.above;
          apart = f.apart g.apart;
          ids_are = g.ids_are ∙ sym (ap ids_in named ∙ ids_later (named_texts s w m n) (level_name E v (u ∷ us)) (precedence-not_new E v u us) (assoc-not_new E v u us));
          ids_table = g.ids_table ∙ ap ids_in (sym f.kept.same);
        };
        same = f.kept.same;
        marks = λ i h. f.kept.marks i (omega (arith, g.naming.upto));
        name = f.number g.apart ∙ ap (number (named_texts s w1 m x.count)) t;
        before = f.kept.before;
        after = λ i h. f.kept.after i (omega arith) (omega arith);
      }

  -- theorem: the name of a level is known, with its number
  pub level_known : (v : ℕ) (vs : List ℕ) (b : Bool) → (b ≡ true → vs ≡ []) → (b ≡ false → vs ≡ [] → ⊥) → (x : LevelName) (w1 : List ℕ) → NamesLevel s w m n base v b x w1
      → LevelKnown s m room ids w n (level_name E v vs) x w1
  unfolding NamesLevel
  level_known v [] true h k x w1 f = let y = f.0 in let z = f.1 in rw (y, z) kept-name
  level_known v [] false h k x w1 f = absurd (k refl refl)
  level_known v (u ∷ us) true h k x w1 f = absurd (no_cons (h refl))
    where
      no_cons : u ∷ us ≡ [] → ⊥
      no_cons e = absurd (omega (arith, ap length e))
  level_known v (u ∷ us) false h k x w1 f = new_name v u us x w1 f

-- what is known of a name
module _ (s : List ℕ) (m : Map) (room : Room) (ids : Ids) (w : List ℕ) (n : ℕ) (t : Text) (x : LevelName) (w1 : List ℕ) (k : LevelKnown s m room ids w n t x w1) where
  pub name_has : has t (named_texts s w1 m x.count) ≡ true
  name_has = rw k.named (new_has (named_texts s w m n) t)

  pub name_small : x.name < 4294967296
  name_small = omega (arith, k.name, number-below (named_texts s w1 m x.count) t name_has, length_named s w1 m x.count, k.names.naming.few)
