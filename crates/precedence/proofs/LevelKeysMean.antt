-- What the alternatives of a level that are put mean: those of its group, substituted. Assumes nothing.
use mathlib.Core.Path.{◌≡◌, refl, ◌∙◌}
use mathlib.Core.Bool.{Bool, true}
use mathlib.Core.Logic.{◌⊎◌, inl, inr}
use mathlib.Core.List.{List, [], ◌∷◌, map, append-nil}
use Prim.Native.Nat.{ℕ, ◌+◌, ◌*◌, ◌/◌, ◌%◌, ◌<◌, ◌≤◌}
use native.Mathlib.Omega.{arith}
use lib.ListN.{length, get_or}
use Rattle.octets.specs.Plain.Numbers.{le_at}
use Rattle.octets.specs.Plain.Runs.{Lies}
use Rattle.parse_tree.specs.Plain.Tree.{Text, Alternative}
use Rattle.parse_tree.specs.Plain.Texts.{has, number}
use Rattle.parse_tree.specs.Plain.WriteTape.{bytes_of_each}
use Rattle.parse_tree.specs.Working.Encode.{alternative_bytes}
use Rattle.parse_tree.specs.Working.Within.{AlternativeWithin}
use Rattle.texts.specs.Table.{found_in}
use Rattle.passes.specs.Outcome.{with_attributes}
use Rattle.passes.specs.Grades.{precedence, assoc, without_first, Graded}
use Rattle.passes.specs.Levels.{Group, lower_name, substitute}
use Rattle.laws.specs.Sort.{key_number}
use Rattle.laws.proofs.Flat.{syms_fit_lem}
use Rattle.resolve.specs.Whole.{Apart}
use Rattle.resolve.proofs.CellsLaws.{lies_agree}
use Rattle.octets.specs.Working.Choice.{pick}
use Rattle.grades.specs.declared.Assoc.{Assoc}
use Rattle.grades.specs.Key.{key_side, side_number}
use Rattle.grades.specs.Annotations.{first_with, first_index}
use Rattle.grades.specs.Ids.{ids_in}
use Rattle.grades.proofs.AlternativesMean.{alternative_means as read-means}
use Rattle.grades.proofs.AscendsMean.{side_few}
use Rattle.precedence.specs.declared.level.Level.{Level}
use Rattle.precedence.specs.Write.{Puts}
use Rattle.precedence.specs.Level.{key_entry, key_place, key_end, KeyInside, PutsKey, PutsKeys, KeysInside}
use Rattle.precedence.proofs.SubstituteMean.{side_meant}
use Rattle.precedence.proofs.WriteLaws.{fits_or_not, puts_beside, puts_on, puts_upto, puts_append, puts_none}
use Rattle.precedence.proofs.WriteWholeMean.{symbols_upto, alternative_means}
use Rattle.precedence.proofs.LevelKeysCode.{number-stays, apart_part}

side_of_rest : (k n : ℕ) → k % 4 ≡ n → n < 4 → key_side k ≡ key_side n
unfolding key_side
side_of_rest k n z h = let y : n % 4 ≡ n = omega arith in rw (z, y)

side_of_number : (s : Assoc) → key_side (side_number s) ≡ s
unfolding key_side side_number pick
side_of_number Assoc.Left = refl
side_of_number Assoc.Right = refl
side_of_number Assoc.NonAssoc = refl
side_of_number Assoc.FullyAssoc = refl

-- theorem: of a key of a level, an index and a side these are read
pub key_reads : (v i : ℕ) (s : Assoc) → i < 65536
    → (key_side (key_number v i (side_number s)) ≡ s) × (key_number v i (side_number s) / 4 % 65536 ≡ i) × (key_number v i (side_number s) / 262144 ≡ v)
key_reads v i s h =
    let c = side_few s in
    (side_of_rest (key_number v i (side_number s)) (side_number s) (omega arith) c ∙ side_of_number s, omega arith, omega arith)

module _ (four : Bool) (wd : ℕ) (ts : List Text) (places : ℕ) where
  -- the alternative that a key leads to is the graded one, but for its annotations
  pub record KeyMeans (w : List ℕ) (k : ℕ) (g : Graded) : Type 0 where
    pub source : Alternative
    pub within : AlternativeWithin four wd ts source
    pub lies : Lies w (key_place w places k) (alternative_bytes wd ts source) (key_end w places k)
    pub is : g.alternative ≡ with_attributes source (without_first assoc (without_first precedence source.attributes))
    pub sided : side_meant (key_side k) ≡ g.side

  -- each key from the i-th on leads to one of these
  abbrev pub KeysMean : ℕ → List ℕ → ℕ → List Graded → Type 0
  KeysMean keys w i [] = Unit {0}
  KeysMean keys w i (g ∷ gs) = KeyMeans w (le_at 8 w (keys + 8 * i)) g × KeysMean keys w (i + 1) gs

  module _ (w : List ℕ) (keys n lim to : ℕ) (room : places + 8 * n + 8 ≤ length w) (apart : Apart places (places + 8 * n + 8) to (lim + 16)) where
    key_inside : (k : ℕ) (g : Graded) → k / 4 % 65536 < n → key_end w places k ≤ to → KeyMeans w k g → KeyInside wd w places lim to k
    key_inside k g h u m = record {
      entry = omega arith;
      apart = apart_part (key_entry places k) (key_entry places k + 16) places (places + 8 * n + 8) to (lim + 16) (omega arith) (omega arith) apart;
      symbols = symbols_upto wd ts m.source w (key_place w places k) (key_end w places k) m.lies;
      upto = u;
    }

    -- theorem: where n places are noted, keys that lead to alternatives below `to` can be put
    pub keys_inside : (gs : List Graded) (i : ℕ) → KeysMean keys w i gs
        → ((j : ℕ) → i ≤ j → j < i + length gs → (le_at 8 w (keys + 8 * j) / 4 % 65536 < n) × (key_end w places (le_at 8 w (keys + 8 * j)) ≤ to))
        → (j : ℕ) → i ≤ j → j < i + length gs → KeyInside wd w places lim to (le_at 8 w (keys + 8 * j))
    keys_inside [] i m f j a b = absurd (omega arith)
    keys_inside (g ∷ gs) i m f j a b = go (fits_or_not j i) (λ c. keys_inside gs (i + 1) m.1 (λ x y z. f x (omega arith) (omega arith)) j c (omega arith))
      where
        go : (j ≤ i) ⊎ (i < j) → (i + 1 ≤ j → KeyInside wd w places lim to (le_at 8 w (keys + 8 * j))) → KeyInside wd w places lim to (le_at 8 w (keys + 8 * j))
        go (inl c) rest =
            let z : j ≡ i = omega arith in
            let h = f i (omega arith) (omega arith) in
            rw z (key_inside (le_at 8 w (keys + 8 * i)) g h.0 h.1 m.0)
        go (inr c) rest = rest (omega arith)

  -- it still is where the bytes that are read are as they were
  means_stays : (w out : List ℕ) (lim to k : ℕ) (g : Graded) → length out ≡ length w → ((x : ℕ) → (x < to) ⊎ (lim + 16 ≤ x) → get_or out x 0 ≡ get_or w x 0) → to ≤ length w
      → KeyInside wd w places lim to k → KeyMeans w k g → KeyMeans out k g
  unfolding key_place key_end
  means_stays w out lim to k g same kept h i m =
      let x = number-stays 8 (key_entry places k) w out lim to kept (apart_part (key_entry places k) (key_entry places k + 8) (key_entry places k) (key_entry places k + 16) to (lim + 16) (omega arith) (omega arith) i.apart) in
      let y = number-stays 8 (key_entry places k + 8) w out lim to kept (apart_part (key_entry places k + 8) (key_entry places k + 8 + 8) (key_entry places k) (key_entry places k + 16) to (lim + 16) (omega arith) (omega arith) i.apart) in
      let u = i.upto in
      let l = lies_agree w out (le_at 8 w (key_entry places k)) (le_at 8 w (key_entry places k + 8)) (alternative_bytes wd ts m.source) same (omega arith) (λ j a b. kept j (inl (omega arith))) m.lies in
      record { source = m.source; within = m.within; lies = rw (x, y) l; is = m.is; sided = m.sided }

  module _ (narrow : wd ≤ 3) (keys : ℕ) (E : Text) (group : Group Graded) (known : has E ts ≡ true) (l : Level) (named : l.name ≡ number ts group.name) (lower : l.lower ≡ number ts (lower_name group)) (lim : ℕ) where
    key_means : (w : List ℕ) (k to r : ℕ) (w1 : List ℕ) (g : Graded) → lim + 16 ≤ length w → KeyMeans w k g → PutsKey wd (ids_in ts) places (number ts E) l lim k w to r w1
        → Puts w lim to (alternative_bytes wd ts (substitute E group g)) r w1
    key_means w k to r w1 g room m q =
        let a = m.source in
        let p = key_place w places k in
        let v = read-means four wd ts w p (key_end w places k) a [] m.within (rw (append-nil (alternative_bytes wd ts a)) m.lies) in
        let c : p + 14 + wd ≡ p + (14 + wd) = omega arith in
        let n = v.many in
        let i : first_with wd (found_in ts precedence) w (p + (14 + wd)) (get_or w (p + 9) 0) ≡ first_index precedence a.attributes = rw (← c, n) v.level.index in
        let j : first_with wd (found_in ts assoc) w (p + (14 + wd)) (get_or w (p + 9) 0) ≡ first_index assoc a.attributes = rw (← c, n) v.side.index in
        alternative_means wd ts E group g a known (syms_fit_lem wd ts four a.symbols 64 m.within.symbols) m.is (key_side k) m.sided w p (key_end w places k) lim to r w1 m.lies room
        (rw (i, j, lower, named) at q.puts)

    module _ (w : List ℕ) (to : ℕ) (room : lim + 16 ≤ length w) (stop : to ≤ lim + 1) (inside : KeysInside wd w places keys l lim to) where
      -- theorem: the alternatives of a level are put as its group has them
      pub keys_mean : (gs : List Graded) (i : ℕ) (out : List ℕ) (q r : ℕ) (w1 : List ℕ) → l.first ≤ i → i + length gs ≤ l.last → length out ≡ length w → ((x : ℕ) → (x < to) ⊎ (lim + 16 ≤ x) → get_or out x 0 ≡ get_or w x 0)
          → to ≤ q → q ≤ lim + 1 → KeysMean keys w i gs → PutsKeys wd (ids_in ts) places keys (number ts E) l lim (length gs) i out q r w1
          → Puts out lim q (bytes_of_each (alternative_bytes wd ts) (map (substitute E group) gs)) r w1
      unfolding bytes_of_each
      keys_mean [] i out q r w1 a b same kept on upto m p = let x = p.0 in let y = p.1 in rw (x, y) (puts_none out lim q upto)
      keys_mean (g ∷ gs) i out q r w1 a b same kept on upto m p =
          let k = le_at 8 w (keys + 8 * i) in
          let y = number-stays 8 (keys + 8 * i) w out lim to kept (apart_part (keys + 8 * i) (keys + 8 * i + 8) keys (keys + 8 * l.last) to (lim + 16) (omega arith) (omega arith) inside.apart) in
          let at1 = p.0 in
          let w2 = p.1 in
          let ins = inside.each i a (omega arith) in
          let km = means_stays w out lim to k g same kept (omega arith) ins m.0 in
          let one = key_means out k q at1 w2 g (omega arith) km (rw y at p.2) in
          let on1 = puts_on out w2 lim q _ at1 one upto in
          let more = keys_mean gs (i + 1) w2 at1 r w1 (omega arith) (omega arith) (one.long ∙ same)
          (λ x o. puts_beside out w2 lim q _ at1 one x (elim o [ inl u ↦ inl (omega arith) | inr u ↦ inr (omega arith) ]) ∙ kept x o) (omega arith) (puts_upto out w2 lim q _ at1 one) m.1 p.3 in
          puts_append out w2 lim q (alternative_bytes wd ts (substitute E group g)) at1 one (bytes_of_each (alternative_bytes wd ts) (map (substitute E group) gs)) r w1 more
