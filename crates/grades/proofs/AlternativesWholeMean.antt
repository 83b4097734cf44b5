-- What grading all alternatives means: the refusal of check_attributes, else the places and the keys of with_sides and with_levels are stored. Assumes nothing.
use mathlib.Core.Path.{◌≡◌, refl, sym, ap, ◌∙◌}
use mathlib.Core.Bool.{Bool, true}
use mathlib.Core.List.{List, [], ◌∷◌}
use Prim.Native.Nat.{ℕ, suc, ◌+◌, ◌*◌, ◌≤◌}
use native.Mathlib.Omega.{arith}
use lib.ListN.{length}
use Rattle.std.specs.Prelude.{Result, Ok}
use Rattle.octets.specs.Plain.Numbers.{le}
use Rattle.octets.proofs.StoreLaws.{length_store, le_at-same}
use Rattle.parse_tree.specs.Plain.Tree.{Text, Alternative}
use Rattle.parse_tree.specs.Plain.WriteTape.{bytes_of_each}
use Rattle.texts.specs.declared.Map.{Map}
use Rattle.passes.specs.Outcome.{Outcome, yes, no}
use Rattle.passes.specs.Grades.{Side, all, with_levels, with_sides}
use Rattle.passes.specs.Levels.{check_attributes}
use Rattle.laws.specs.Sort.{keys_from}
use Rattle.grades.specs.declared.Assoc.{Assoc}
use Rattle.grades.specs.declared.Ungraded.{Ungraded}
use Rattle.grades.specs.Grade.{assoc_of}
use Rattle.grades.specs.Ids.{ids_in}
use Rattle.grades.specs.Sort.{keys_at}
use Rattle.grades.specs.Alternatives.{grades_out, grade_from, Grades}
use Rattle.grades.specs.Key.{code_of}
use Rattle.grades.proofs.AscendsMean.{ascends_from}
use Rattle.grades.proofs.AlternativesLaws.{outside_part, cell_kept}
use Rattle.grades.proofs.AlternativesStored.{Ready, places_from, Others, AllStored, OneRefused, GradesMean, mean_same, one_more}

module _ (four : Bool) (wd : ℕ) (ts : List Text) (s : List ℕ) (m : Map) (places keys n e : ℕ) where
  none_left : (w : List ℕ) (i p level : ℕ) (side : Side) (b : Bool) → Ready four wd ts s m places keys n e w i p level []
      → AllStored four wd ts s m places keys n e w i p level side b [] (grade_from wd (ids_in ts) s m e places keys 0 i p level (assoc_of side) b w)
  unfolding grade_from keys_at keys_from places_from ascends_from bytes_of_each
  none_left w i p level side b r =
      let g = r.gradable in
      let h : places + 8 * i + 8 ≤ length w = omega (arith, r.many, g.places-off.inside) in
      record {
        answer = refl;
        long = length_store w (places + 8 * i) (le 8 p);
        keys_are = refl;
        places-are = ap (λ (v : ℕ). v ∷ []) (le_at-same 8 w (places + 8 * i) p h (omega (arith, r.narrow, r.lies.end, g.inside)));
        others = λ j x y. cell_kept w (places + 8 * i) p j (outside_part (places + 8 * i) (places + 8 * n + 8) (places + 8 * i) (places + 8 * i + 8) j (omega arith) (omega (arith, r.many)) x);
      }

  -- theorem: what is left of the alternatives is refused as check_attributes refuses it, else their keys and places are stored
  pub grades_mean : (cs : List Alternative) (w : List ℕ) (i p level : ℕ) (side : Side) (b : Bool) → Ready four wd ts s m places keys n e w i p level cs
      → GradesMean four wd ts s m places keys n e w i p level side b cs (grade_from wd (ids_in ts) s m e places keys (length cs) i p level (assoc_of side) b w) (check_attributes cs)
  grades_mean [] w i p level side b r = none_left w i p level side b r
  grades_mean (a ∷ rest) w i p level side b r = one_more four wd ts s m places keys n e w i p level side b a rest r (grades_mean rest)

  -- the same, of all alternatives: what `grade` answers and leaves
  pub record Keyed (w : List ℕ) (at : ℕ) (cs : List Alternative) (r : Result Bool Ungraded) (w' : List ℕ) : Type 0 where
    pub answer : r ≡ Ok (ascends_from true 0 (with_levels 0 cs))
    pub keys_are : keys_at w' keys n ≡ keys_from code_of 0 (with_sides all (with_levels 0 cs))
    pub places-are : keys_at w' places (n + 1) ≡ places_from four wd ts s m places keys n e at cs
    pub long : length w' ≡ length w
    pub others : Others four wd ts s m places keys n e w 0 w'

  abbrev pub GradeMeans : List ℕ → ℕ → List Alternative → Result Bool Ungraded → List ℕ → Outcome (Unit {0}) → Type 0
  GradeMeans w at cs r w' (yes u) = Keyed w at cs r w'
  GradeMeans w at cs r w' (no q sp) = OneRefused four wd ts s m places keys n e w 0 q sp (grades_out r w')

  keyed : (cs : List Alternative) (w : List ℕ) (at : ℕ) → length cs ≡ n → (r : Result Bool Ungraded) (w' : List ℕ) (o : Outcome (Unit {0})) → GradesMean four wd ts s m places keys n e w 0 at 0 all true cs (grades_out r w') o → GradeMeans w at cs r w' o
  keyed cs w at h r w' (yes u) f = record {
    answer = f.answer;
    keys_are = let y : keys + 8 * 0 ≡ keys = omega arith in let z : n ≡ length cs = sym h in ap (keys_at w' keys) z ∙ (rw y at f.keys_are);
    places-are = let y : places + 8 * 0 ≡ places = omega arith in let z : n + 1 ≡ suc (length cs) = omega (arith, h) in ap (keys_at w' places) z ∙ (rw y at f.places-are);
    long = f.long;
    others = f.others;
  }
  keyed cs w at h r w' (no q sp) f = f

  -- theorem: `grade`, whose contract is Grades, refuses as check_attributes does, else the keys and the places are stored
  pub grade_means : (cs : List Alternative) (w : List ℕ) (at : ℕ) → Ready four wd ts s m places keys n e w 0 at 0 cs → (r : Result Bool Ungraded) (w' : List ℕ) → Grades (grade_from wd (ids_in ts) s m e places keys n 0 at 0 Assoc.FullyAssoc true w) r w'
      → GradeMeans w at cs r w' (check_attributes cs)
  grade_means cs w at h r w' g =
      let k : length cs ≡ n = omega (arith, h.many) in
      let z : grade_from wd (ids_in ts) s m e places keys (length cs) 0 at 0 Assoc.FullyAssoc true w ≡ grades_out r w'
      = ap (λ (c : ℕ). grade_from wd (ids_in ts) s m e places keys c 0 at 0 Assoc.FullyAssoc true w) k ∙ g.is in
      keyed cs w at k r w' (check_attributes cs) (mean_same four wd ts s m places keys n e w 0 at 0 all true cs (check_attributes cs) (grades_out r w') _ (sym z) (grades_mean cs w 0 at 0 all true h))
