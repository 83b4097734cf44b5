-- Levels and sides of alternatives, as the attributes `precedence` and `assoc` say them. Assumes nothing: these are definitions.
use Rattle.std.specs.Prelude.{ℕ, suc, ◌+◌, ◌*◌, ◌-◌, Bool, true, false, cond, ◌&&◌, ◌||◌, List, [], ◌∷◌, eqb, leb}
use Rattle.std.proofs.Math.Option.{Option, none, some}
use Rattle.octets.specs.Plain.Runs.{same_as}
use Rattle.parse_tree.specs.Plain.Texts.{ascii}
use Rattle.parse_tree.specs.Plain.Tree.{Text, Attribute, Alternative, Nonterminal}
use Rattle.passes.specs.Outcome.{with_attributes}

-- left, right, none, all
pub data Side : Type 0 where
  all non left right : Side

-- ---- "The level is a `u32` as Rust parses it": digits, perhaps behind a plus
abbrev pub is_digit : ℕ → Bool
is_digit b = leb 0x30 b && leb b 0x39

abbrev pub digits : ℕ → Text → Option ℕ
digits v [] = cond (leb v 4294967295) (some v) none
digits v (b ∷ bs) = cond (is_digit b) (digits (v * 10 + (b - 0x30)) bs) none

abbrev pub unsigned : Text → Option ℕ
unsigned [] = none
unsigned (b ∷ bs) = digits 0 (b ∷ bs)

abbrev pub level_in : Text → Option ℕ
level_in [] = none
level_in (b ∷ bs) = cond (eqb b 0x2b) (unsigned bs) (unsigned (b ∷ bs))

-- "Side one of left, right, none, all"
abbrev pub side_in : Text → Option Side
side_in t =
    cond (same_as t (ascii "all")) (some all)
    (cond (same_as t (ascii "none")) (some non)
    (cond (same_as t (ascii "left")) (some left)
    (cond (same_as t (ascii "right")) (some right) none)))

-- ---- attributes
abbrev pub precedence : Text
precedence = ascii "precedence"

abbrev pub assoc : Text
assoc = ascii "assoc"

-- "Only the first attribute of each id is taken": nothing where there is none, else its value, which may be missing
abbrev pub value_of : Text → List Attribute → Option (Option Text)
value_of id [] = none
value_of id (a ∷ rest) = cond (same_as id a.id) (some (elim a.argument [ none ↦ none | some kv ↦ some kv.1 ])) (value_of id rest)

-- "and removed"
abbrev pub without_first : Text → List Attribute → List Attribute
without_first id [] = []
without_first id (a ∷ rest) = cond (same_as id a.id) rest (a ∷ without_first id rest)

abbrev pub is_given : {A : Type 0} → Option A → Bool
is_given none = false
is_given (some v) = true

-- "A nonterminal counts as annotated when its first alternative has `precedence` or `assoc`"
abbrev pub starts_annotated : List Alternative → Bool
starts_annotated [] = false
starts_annotated (a ∷ rest) = is_given (value_of precedence a.attributes) || is_given (value_of assoc a.attributes)

abbrev pub annotated : Nonterminal → Bool
annotated d = starts_annotated d.alternatives

-- ---- first the level: an alternative has its own, or that of the one before; `is_new` where a `precedence` set it here
pub record Levelled : Type 0 where
  pub level : ℕ
  pub is_new : Bool
  pub alternative : Alternative

abbrev pub level_of : ℕ → Option (Option Text) → ℕ
level_of l none = l
level_of l (some none) = l
level_of l (some (some t)) = elim (level_in t) [ none ↦ l | some v ↦ v ]

-- "otherwise both are inherited, from level 0"
abbrev pub with_levels : ℕ → List Alternative → List Levelled
with_levels l [] = []
with_levels l (a ∷ rest) =
    let given = value_of precedence a.attributes in
    let v : ℕ = level_of l given in
    record { level = v; is_new = is_given given; alternative = with_attributes a (without_first precedence a.attributes) } ∷ with_levels v rest

-- ---- then the side: "A `precedence` sets the level and resets associativity to `all`", otherwise inherited, from `all`
pub record Graded : Type 0 where
  pub level : ℕ
  pub side : Side
  pub alternative : Alternative

abbrev pub side_of : Side → Option (Option Text) → Side
side_of s none = s
side_of s (some none) = s
side_of s (some (some t)) = elim (side_in t) [ none ↦ s | some v ↦ v ]

abbrev pub with_sides : Side → List Levelled → List Graded
with_sides s [] = []
with_sides s (x ∷ rest) =
    let v : Side = side_of (cond x.is_new all s) (value_of assoc x.alternative.attributes) in
    record { level = x.level; side = v; alternative = with_attributes x.alternative (without_first assoc x.alternative.attributes) } ∷ with_sides v rest

-- each alternative with its level and side
abbrev pub graded : Nonterminal → List Graded
graded d = with_sides all (with_levels 0 d.alternatives)

-- what occurrence j of `total` gets, its own level's or the next lower one's:
-- "`all` v; `none` the next lower level; `left` v for the first in tape order, the next lower for others; `right` v for the last"
abbrev pub ceiling : {A : Type 0} → Side → A → A → ℕ → ℕ → A
ceiling all own low total j = own
ceiling non own low total j = low
ceiling left own low total j = cond (eqb j 0) own low
ceiling right own low total j = cond (eqb (suc j) total) own low
