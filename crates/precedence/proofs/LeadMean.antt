-- What sorted keys lead to: by the places that are noted, each to its alternative as it stood with its annotations. Assumes nothing.
use mathlib.Core.Path.{◌≡◌, refl, ap, ◌∙◌}
use mathlib.Core.Bool.{Bool, true, false, cond}
use mathlib.Core.Logic.{◌⊎◌, inl, inr}
use mathlib.Core.List.{List, [], ◌∷◌}
use Prim.Native.Nat.{ℕ, zero, suc, ◌+◌, ◌*◌, ◌/◌, ◌%◌, ◌≤◌, ◌<◌}
use native.Mathlib.Omega.{arith}
use lib.Dec.{eqb}
use lib.ListN.{length, length-append}
use Rattle.octets.specs.Plain.Numbers.{le_at, le}
use Rattle.octets.specs.Plain.Runs.{Lies}
use Rattle.octets.proofs.LiesLaws.{lies_split}
use Rattle.octets.proofs.NumbersLaws.{length-le}
use Rattle.parse_tree.specs.Plain.Tree.{Text, Alternative}
use Rattle.parse_tree.specs.declared.syntax.Span.{Span}
use Rattle.parse_tree.specs.Plain.WriteTape.{bytes_of_each}
use Rattle.parse_tree.specs.Working.Nodes.{node_bytes, span_bytes, span_in}
use Rattle.parse_tree.specs.Working.Encode.{alternative_node, alternative_bytes}
use Rattle.parse_tree.specs.Working.Within.{Each, AlternativeWithin}
use Rattle.parse_tree.proofs.FieldLaws.{byte_read, span_read}
use Rattle.parse_tree.proofs.SpanLaws.{length_span}
use Rattle.texts.specs.declared.Map.{Map}
use Rattle.passes.specs.Outcome.{with_attributes}
use Rattle.passes.specs.Grades.{Side, all, non, left, right, precedence, assoc, value_of, is_given, level_of, side_of, without_first, with_levels, Graded, with_sides}
use Rattle.passes.specs.Levels.{levels_of, of_level}
use Rattle.laws.specs.Sort.{key_of, level_keys}
use Rattle.grades.specs.Grade.{assoc_of}
use Rattle.grades.specs.Sort.{keys_at}
use Rattle.grades.proofs.AscendsMean.{side_few}
use Rattle.grades.proofs.AlternativesLaws.{level_of_small}
use Rattle.grades.proofs.AlternativesStored.{places_from}
use Rattle.grades.proofs.LowestMean.{SpanAt}
use Rattle.grades.specs.Key.{key_side, code_of}
use Rattle.precedence.specs.Level.{key_place, key_end}
use Rattle.precedence.proofs.SubstituteMean.{side_meant}
use Rattle.precedence.proofs.WriteLaws.{fits_or_not}
use Rattle.precedence.proofs.LevelKeysMean.{key_reads, KeyMeans, KeysMean}
use Rattle.precedence.proofs.GroupMean.{each-inserted}

-- ---- lists of keys
first_of : (x y : ℕ) (xs ys : List ℕ) → x ∷ xs ≡ y ∷ ys → x ≡ y
first_of x y xs ys h = cc

rest_of : (x y : ℕ) (xs ys : List ℕ) → x ∷ xs ≡ y ∷ ys → xs ≡ ys
rest_of x y xs ys h = cc

-- ---- sides in keys
meant_back : (s : Side) → side_meant (assoc_of s) ≡ s
meant_back all = refl
meant_back non = refl
meant_back left = refl
meant_back right = refl

key_side_lem : (v j : ℕ) (s : Side) → j < 65536 → side_meant (key_side (key_of code_of v j s)) ≡ s
key_side_lem v j s h = ap side_meant (key_reads v j (assoc_of s) h).0 ∙ meant_back s

key_index : (v j : ℕ) (s : Side) → j < 65536 → key_of code_of v j s / 4 % 65536 ≡ j
key_index v j s h = omega (arith, side_few (assoc_of s))

-- ---- alternatives in order
-- the j-th of these is a
abbrev pub JthIs : List Alternative → ℕ → Alternative → Type 0
JthIs [] j a = ⊥
JthIs (c ∷ cs) zero a = c ≡ a
JthIs (c ∷ cs) (suc j) a = JthIs cs j a

-- an alternative graded behind a level and a side
module _ (level : ℕ) (side : Side) (a : Alternative) where
  abbrev own_level : ℕ
  own_level = level_of level (value_of precedence a.attributes)

  abbrev own_side : Side
  own_side = side_of (cond (is_given (value_of precedence a.attributes)) all side) (value_of assoc (without_first precedence a.attributes))

  abbrev own : Graded
  own = record { level = own_level; side = own_side; alternative = with_attributes a (without_first assoc (without_first precedence a.attributes)) }

-- theorem: grading leaves as many
pub graded-many : (cs : List Alternative) (level : ℕ) (side : Side) → length (with_sides side (with_levels level cs)) ≡ length cs
graded-many [] level side = refl
graded-many (a ∷ rest) level side = ap suc (graded-many rest (own_level level side a) (own_side level side a))

-- the alternative of a span
record Spanned (cs : List Alternative) (j : ℕ) (sp : Span) : Type 0 where
  alternative : Alternative
  is : JthIs cs j alternative
  span : alternative.span ≡ sp

spanned : (cs : List Alternative) (level : ℕ) (side : Side) (j : ℕ) (sp : Span) → SpanAt (with_sides side (with_levels level cs)) j sp → Spanned cs j sp
spanned [] level side j sp h = absurd h
spanned (a ∷ rest) level side zero sp h = record { alternative = a; is = refl; span = h }
spanned (a ∷ rest) level side (suc j) sp h =
    let f = spanned rest (own_level level side a) (own_side level side a) j sp h in
    record { alternative = f.alternative; is = f.is; span = f.span }

-- ---- levels
small_from : (cs : List Alternative) (level : ℕ) (side : Side) → level < 4294967296 → Each (λ (g : Graded). g.level < 4294967296) (with_sides side (with_levels level cs))
small_from [] level side h = tt
small_from (a ∷ rest) level side h =
    let k = level_of_small level h (value_of precedence a.attributes) in
    (k, small_from rest (own_level level side a) (own_side level side a) k)

-- theorem: each level is a `u32`
pub levels-small : (cs : List Alternative) → Each (λ (g : Graded). g.level < 4294967296) (with_sides all (with_levels 0 cs))
levels-small cs = small_from cs 0 all (omega arith)

small_levels : (gs : List Graded) → Each (λ (g : Graded). g.level < 4294967296) gs → Each (λ (v : ℕ). v < 4294967296) (levels_of gs)
unfolding levels_of
small_levels [] h = tt
small_levels (g ∷ gs) h = each-inserted (λ (v : ℕ). v < 4294967296) g.level (levels_of gs) h.0 (small_levels gs h.1)

-- theorem: and so is each of the levels in order
pub levels-of_small : (cs : List Alternative) → Each (λ (v : ℕ). v < 4294967296) (levels_of (with_sides all (with_levels 0 cs)))
levels-of_small cs = small_levels (with_sides all (with_levels 0 cs)) (levels-small cs)

-- ---- one alternative's bytes
module _ (four : Bool) (wd : ℕ) (ts : List Text) (w : List ℕ) (a : Alternative) (within : AlternativeWithin four wd ts a) (p e : ℕ) (lies : Lies w p (alternative_bytes wd ts a) e) where
  span_is : span_in w (p + 1) ≡ a.span
  unfolding alternative_bytes alternative_node node_bytes span_bytes le
  span_is = let c = byte_read w _ p (p + 1) refl lies in (span_read w _ (p + 1) (p + 9) {sp = a.span} (omega arith) within.span c.1).0

  long_enough : p + (14 + wd) ≤ e
  unfolding alternative_bytes alternative_node node_bytes
  long_enough = let z = lies.end in omega (arith, simp (length-append, length-le, length_span) at z)

-- ---- what the places lead to
module _ (four : Bool) (wd : ℕ) (ts : List Text) (w : List ℕ) (e : ℕ) where
  -- the number at q is the place of an alternative, at p or behind it, and the next one its end
  pub record Leads (q p : ℕ) (a : Alternative) : Type 0 where
    pub within : AlternativeWithin four wd ts a
    pub lies : Lies w (le_at 8 w q) (alternative_bytes wd ts a) (le_at 8 w (q + 8))
    pub from : p ≤ le_at 8 w q
    pub upto : le_at 8 w (q + 8) ≤ e

  leads_at : (q q' p : ℕ) (a : Alternative) → q ≡ q' → Leads q p a → Leads q' p a
  leads_at q q' p a z f = rw (← z) f

  leads_behind : (q p p' : ℕ) (a : Alternative) → p ≤ p' → Leads q p' a → Leads q p a
  leads_behind q p p' a h f = record { within = f.within; lies = f.lies; from = omega (arith, f.from); upto = f.upto }

  module _ (s : List ℕ) (m : Map) (places stored n : ℕ) where
    abbrev noted : ℕ → List Alternative → List ℕ
    noted = places_from four wd ts s m places stored n e

    first_place : (cs : List Alternative) (q p : ℕ) → keys_at w q (suc (length cs)) ≡ noted p cs → le_at 8 w q ≡ p
    unfolding keys_at places_from
    first_place [] q p h = first_of _ _ _ _ h
    first_place (c ∷ cs) q p h = first_of _ _ _ _ h

    place_leads : (cs : List Alternative) (q p : ℕ) → Each (AlternativeWithin four wd ts) cs → Lies w p (bytes_of_each (alternative_bytes wd ts) cs) e → keys_at w q (suc (length cs)) ≡ noted p cs
        → (j : ℕ) (a : Alternative) → JthIs cs j a → Leads (q + 8 * j) p a
    unfolding keys_at places_from bytes_of_each
    place_leads [] q p f l h j a z = absurd z
    place_leads (c ∷ cs) q p f l h zero a z =
        let x = lies_split w p e (alternative_bytes wd ts c) (bytes_of_each (alternative_bytes wd ts) cs) l in
        let y : le_at 8 w q ≡ p = first_of _ _ _ _ h in
        let u : le_at 8 w (q + 8) ≡ p + length (alternative_bytes wd ts c) = first_place cs (q + 8) (p + length (alternative_bytes wd ts c)) (rest_of _ _ _ _ h) in
        let r : Leads q p c = record { within = f.0; lies = rw (y, u) x.0; from = omega arith; upto = omega (arith, u, x.1.end) } in
        rw (← z) (leads_at q (q + 8 * 0) p c (omega arith) r)
    place_leads (c ∷ cs) q p f l h (suc j) a z =
        let x = lies_split w p e (alternative_bytes wd ts c) (bytes_of_each (alternative_bytes wd ts) cs) l in
        let r = place_leads cs (q + 8) (p + length (alternative_bytes wd ts c)) f.1 x.1 (rest_of _ _ _ _ h) j a z in
        leads_behind (q + 8 * suc j) p (p + length (alternative_bytes wd ts c)) a (omega arith) (leads_at (q + 8 + 8 * j) (q + 8 * suc j) (p + length (alternative_bytes wd ts c)) a (omega arith) r)

  -- ---- keys of one level
  module _ (places at many keys v : ℕ) where
    -- a key leads to its alternative, which is one of so many, and ends at e or before
    record KeyLeads (k : ℕ) (g : Graded) : Type 0 where
      mean : KeyMeans four wd ts places w k g
      index : k / 4 % 65536 < many
      upto : key_end w places k ≤ e

    abbrev KeysLead : ℕ → List Graded → Type 0
    KeysLead i [] = Unit {0}
    KeysLead i (g ∷ gs) = KeyLeads (le_at 8 w (keys + 8 * i)) g × KeysLead (i + 1) gs

    key_leads : (j : ℕ) (a : Alternative) (g : Graded) → j < many → j < 65536 → Leads (places + 8 * j) at a → g.alternative ≡ with_attributes a (without_first assoc (without_first precedence a.attributes))
        → (k : ℕ) → k ≡ key_of code_of v j g.side → KeyLeads k g
    unfolding key_place key_end
    key_leads j a g h few l is k z =
        let i : k / 4 % 65536 ≡ j = ap (λ (x : ℕ). x / 4 % 65536) z ∙ key_index v j g.side few in
        record {
          mean = record { source = a; within = l.within; lies = rw i l.lies; is = is; sided = ap (λ (x : ℕ). side_meant (key_side x)) z ∙ key_side_lem v j g.side few };
          index = rw i h;
          upto = rw i l.upto;
        }

    -- one more is of the level, or is not
    lead_one : (c : Bool) (g : Graded) (gs : List Graded) (j i : ℕ) → ((k : ℕ) → k ≡ key_of code_of v j g.side → KeyLeads k g)
        → ((h : ℕ) → keys_at w (keys + 8 * h) (length (of_level v gs)) ≡ level_keys code_of v (suc j) gs → KeysLead h (of_level v gs))
        → keys_at w (keys + 8 * i) (length (cond c (g ∷ of_level v gs) (of_level v gs))) ≡ cond c (key_of code_of v j g.side ∷ level_keys code_of v (suc j) gs) (level_keys code_of v (suc j) gs)
        → KeysLead i (cond c (g ∷ of_level v gs) (of_level v gs))
    unfolding keys_at
    lead_one true g gs j i one more k =
        let z : keys + 8 * (i + 1) ≡ keys + 8 * i + 8 = omega arith in
        (one (le_at 8 w (keys + 8 * i)) (first_of _ _ _ _ k), more (i + 1) (ap (λ (x : ℕ). keys_at w x (length (of_level v gs))) z ∙ rest_of _ _ _ _ k))
    lead_one false g gs j i one more k = more i k

    lead_from : (cs : List Alternative) (j level : ℕ) (side : Side) → j + length cs ≤ many → many ≤ 65536 → ((h : ℕ) (a : Alternative) → JthIs cs h a → Leads (places + 8 * (j + h)) at a)
        → (i : ℕ) → keys_at w (keys + 8 * i) (length (of_level v (with_sides side (with_levels level cs)))) ≡ level_keys code_of v j (with_sides side (with_levels level cs))
        → KeysLead i (of_level v (with_sides side (with_levels level cs)))
    unfolding of_level level_keys
    lead_from [] j level side b few f i k = tt
    lead_from (a ∷ rest) j level side b few f i k =
        lead_one (eqb (own_level level side a) v) (own level side a) (with_sides (own_side level side a) (with_levels (own_level level side a) rest)) j i
        (key_leads j a (own level side a) (omega arith) (omega arith) (leads_at (places + 8 * (j + 0)) (places + 8 * j) at a (omega arith) (f 0 a refl)) refl)
        (lead_from rest (suc j) (own_level level side a) (own_side level side a) (omega arith) few
        (λ h x z. leads_at (places + 8 * (j + suc h)) (places + 8 * (suc j + h)) at x (omega arith) (f (suc h) x z)))
        k

    lead_means : (gs : List Graded) (i : ℕ) → KeysLead i gs → KeysMean four wd ts places keys w i gs
    lead_means [] i f = tt
    lead_means (g ∷ gs) i f = (f.0.mean, lead_means gs (i + 1) f.1)

    lead_noted : (gs : List Graded) (i : ℕ) → KeysLead i gs
        → (j : ℕ) → i ≤ j → j < i + length gs → (le_at 8 w (keys + 8 * j) / 4 % 65536 < many) × (key_end w places (le_at 8 w (keys + 8 * j)) ≤ e)
    lead_noted [] i f j a b = absurd (omega arith)
    lead_noted (g ∷ gs) i f j a b = go (fits_or_not j i) (λ c. lead_noted gs (i + 1) f.1 j c (omega arith))
      where
        go : (j ≤ i) ⊎ (i < j) → (i + 1 ≤ j → (le_at 8 w (keys + 8 * j) / 4 % 65536 < many) × (key_end w places (le_at 8 w (keys + 8 * j)) ≤ e))
            → (le_at 8 w (keys + 8 * j) / 4 % 65536 < many) × (key_end w places (le_at 8 w (keys + 8 * j)) ≤ e)
        go (inl c) rest = let z : j ≡ i = omega arith in rw z (f.0.index, f.0.upto)
        go (inr c) rest = rest (omega arith)

-- ---- all of it
module _ (four : Bool) (wd : ℕ) (ts : List Text) (s : List ℕ) (m : Map) (w : List ℕ) (places stored n at e : ℕ) (cs : List Alternative) (within : Each (AlternativeWithin four wd ts) cs)
    (lies : Lies w at (bytes_of_each (alternative_bytes wd ts) cs) e) (noted : keys_at w places (suc (length cs)) ≡ places_from four wd ts s m places stored n e at cs) (few : length cs < 65536) where
  -- theorem: the j-th place leads to the j-th alternative
  pub place_means : (j : ℕ) (a : Alternative) → JthIs cs j a → Leads four wd ts w e (places + 8 * j) at a
  place_means j a z = place_leads four wd ts w e s m places stored n cs places at within lies noted j a z

  -- theorem: and its span is read behind its code; it has 16 bytes or more
  pub span_noted : 2 ≤ wd → (j : ℕ) (sp : Span) → SpanAt (with_sides all (with_levels 0 cs)) j sp
      → (span_in w (le_at 8 w (places + 8 * j) + 1) ≡ sp) × (le_at 8 w (places + 8 * j) + 16 ≤ e)
  span_noted h j sp x =
      let y = spanned cs 0 all j sp x in
      let f = place_means j y.alternative y.is in
      let p = le_at 8 w (places + 8 * j) in
      let q = le_at 8 w (places + 8 * j + 8) in
      (span_is four wd ts w y.alternative f.within p q f.lies ∙ y.span, omega (arith, long_enough four wd ts w y.alternative f.within p q f.lies, f.upto))

  module _ (keys i v : ℕ) (keyed : keys_at w (keys + 8 * i) (length (of_level v (with_sides all (with_levels 0 cs)))) ≡ level_keys code_of v 0 (with_sides all (with_levels 0 cs))) where
    lead_all : KeysLead four wd ts w e places at (length cs) keys v i (of_level v (with_sides all (with_levels 0 cs)))
    lead_all =
        lead_from four wd ts w e places at (length cs) keys v cs 0 0 all (omega arith) (omega (arith, few))
        (λ j a z. leads_at four wd ts w e (places + 8 * j) (places + 8 * (0 + j)) at a (omega arith) (place_means j a z)) i keyed

    -- theorem: each key of a level leads to its alternative
    pub keys_lead : KeysMean four wd ts places keys w i (of_level v (with_sides all (with_levels 0 cs)))
    keys_lead = lead_means four wd ts w e places at (length cs) keys v (of_level v (with_sides all (with_levels 0 cs))) i lead_all

    -- theorem: which is one of those, and lies before e
    pub keys_noted : (j : ℕ) → i ≤ j → j < i + length (of_level v (with_sides all (with_levels 0 cs)))
        → (le_at 8 w (keys + 8 * j) / 4 % 65536 < length cs) × (key_end w places (le_at 8 w (keys + 8 * j)) ≤ e)
    keys_noted = lead_noted four wd ts w e places at (length cs) keys v (of_level v (with_sides all (with_levels 0 cs))) i lead_all
