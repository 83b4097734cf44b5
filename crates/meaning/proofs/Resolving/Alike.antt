-- Lists that are alike one by one, and trees whose items differ only in symbols that were resolved. Assumes nothing.
use mathlib.Core.Path.{◌≡◌, refl, sym, ap, ap₂, subst}
use Prim.Native.Nat.{ℕ}
use mathlib.Core.List.Memᴰ
use mathlib.Core.List.{List, [], ◌∷◌, Memᴰ}
use mathlib.Core.Bool.{Bool, cond, ◌&&◌, ◌||◌}
use lib.Dec.{ltb, leb}
use Rattle.octets.specs.Plain.Runs.{same_as}
use Rattle.parse_tree.specs.Plain.Tree.{Text, Attribute, Alternative, Nonterminal, Item, item}
use Rattle.passes.specs.Outcome.{Tree, yes, with_attributes}
use Rattle.passes.specs.Grades.{Side, all, precedence, assoc, value_of, without_first, is_given, starts_annotated, level_of, with_levels, Graded, side_of, with_sides}
use Rattle.meaning.specs.Meaning.{is_terminal, below}
use Rattle.passes.specs.Resolve.{Global, nonterminals, check_condition, validate_symbols, validate_alternatives, validate_macro_args, validate_items}
use Rattle.passes.proofs.Outcomes.{yes_inj, after-yes}
use Rattle.meaning.proofs.Resolving.Globals.{global_of}

module _ (A : Type 0) (P : A → A → Type 0) where
  pub data Alike : List A → List A → Type 0 where
    k_nil : Alike [] []
    k_cons : {x y : A} {xs ys : List A} → P x y → Alike xs ys → Alike (x ∷ xs) (y ∷ ys)

  pub alike_to : {xs ys : List A} → Alike xs ys → (x : A) → Memᴰ x xs → (y : A) × Memᴰ y ys × P x y
  alike_to k_nil x i = absurd (Memᴰ.not-nil i)
  alike_to (k_cons {y = b} h hs) x (Memᴰ.head e) = (b, Memᴰ.head refl, subst (λ (z : A). P z b) (sym e) h)
  alike_to (k_cons h hs) x (Memᴰ.tail i) = let (y, j, l) = alike_to hs x i in (y, Memᴰ.tail j, l)

  pub alike_from : {xs ys : List A} → Alike xs ys → (y : A) → Memᴰ y ys → (x : A) × Memᴰ x xs × P x y
  alike_from k_nil y i = absurd (Memᴰ.not-nil i)
  alike_from (k_cons {x = a} h hs) y (Memᴰ.head e) = (a, Memᴰ.head refl, subst (λ (z : A). P a z) (sym e) h)
  alike_from (k_cons h hs) y (Memᴰ.tail i) = let (x, j, l) = alike_from hs y i in (x, Memᴰ.tail j, l)

-- ---- the alternatives of an item with arguments ps, resolved in U
module _ (U : Tree) (ps : List Text) where
  pub record AlternativeLike (a b : Alternative) : Type 0 where
    pub attributes : b.attributes ≡ a.attributes
    pub condition : b.condition ≡ a.condition
    pub symbols : validate_symbols U ps a.symbols ≡ yes b.symbols

  abbrev pub AlternativesLike : List Alternative → List Alternative → Type 0
  AlternativesLike = Alike Alternative AlternativeLike

  alternatives_like : (xs ys : List Alternative) → validate_alternatives U ps xs ≡ yes ys → AlternativesLike xs ys
  unfolding validate_alternatives
  alternatives_like [] ys e = subst (AlternativesLike []) (yes_inj _ ys e) k_nil
  alternatives_like (a ∷ rest) zs e =
      let (u, eu, e1) = after-yes (check_condition U ps a.condition) _ zs e in
      let (ys, ey, e2) = after-yes (validate_symbols U ps a.symbols) _ zs e1 in
      let (bs, eb, e3) = after-yes (validate_alternatives U ps rest) _ zs e2 in
      subst (AlternativesLike (a ∷ rest)) (yes_inj _ zs e3) (k_cons (record { attributes = refl; condition = refl; symbols = ey }) (alternatives_like rest bs eb))

  pub annotated-like : {xs ys : List Alternative} → AlternativesLike xs ys → starts_annotated ys ≡ starts_annotated xs
  annotated-like k_nil = refl
  annotated-like (k_cons h hs) = ap (λ (t : List Attribute). is_given (value_of precedence t) || is_given (value_of assoc t)) h.attributes

  -- ---- levels and sides
  pub record GradedLike (g h : Graded) : Type 0 where
    pub level : h.level ≡ g.level
    pub side : h.side ≡ g.side
    pub alternative : AlternativeLike g.alternative h.alternative

  abbrev GradedsLike : List Graded → List Graded → Type 0
  GradedsLike = Alike Graded GradedLike

  abbrev graded_from : ℕ → Side → List Alternative → List Graded
  graded_from l s xs = with_sides s (with_levels l xs)

  abbrev next_level : ℕ → List Attribute → ℕ
  next_level l t = level_of l (value_of precedence t)

  abbrev next_side : Side → List Attribute → Side
  next_side s t = side_of (cond (is_given (value_of precedence t)) all s) (value_of assoc (without_first precedence t))

  abbrev remaining : List Attribute → List Attribute
  remaining t = without_first assoc (without_first precedence t)

  -- b graded as if its attributes were t, and the others behind it
  abbrev graded_as : ℕ → Side → Alternative → List Alternative → List Attribute → List Graded
  graded_as l s b ys t = record { level = next_level l t; side = next_side s t; alternative = with_attributes b (remaining t) } ∷ graded_from (next_level l t) (next_side s t) ys

  pub graded-like : (l : ℕ) (s : Side) {xs ys : List Alternative} → AlternativesLike xs ys → GradedsLike (graded_from l s xs) (graded_from l s ys)
  graded-like l s k_nil = k_nil
  graded-like l s (k_cons {x = a} {y = b} {xs = xs} {ys = ys} h hs) =
      subst (λ (t : List Attribute). GradedsLike (graded_from l s (a ∷ xs)) (graded_as l s b ys t)) (sym h.attributes)
      (k_cons (record { level = refl; side = refl; alternative = record { attributes = refl; condition = h.condition; symbols = h.symbols } }) (graded-like (next_level l a.attributes) (next_side s a.attributes) hs))

  pub below-like : (v : ℕ) {gs hs : List Graded} → GradedsLike gs hs → below v hs ≡ below v gs
  below-like v k_nil = refl
  below-like v (k_cons h hs) = ap₂ (λ (n r : ℕ). cond (ltb n v && leb r n) n r) h.level (below-like v hs)

-- ---- items
module _ (U : Tree) where
  pub record Like (d e : Nonterminal) : Type 0 where
    pub name : e.name ≡ d.name
    pub args : e.args ≡ d.args
    pub global : global_of e ≡ global_of d
    pub alternatives : AlternativesLike U d.args d.alternatives e.alternatives

  abbrev ItemLike : Item → Item → Type 0
  ItemLike (item d) (item e) = Like d e
  ItemLike (item d) (Item.terminal s o t) = ⊥
  ItemLike (Item.terminal s o t) (item d) = ⊥
  ItemLike (Item.terminal s o t) (Item.terminal s' o' t') = t' ≡ t

  abbrev pub ItemsLike : List Item → List Item → Type 0
  ItemsLike = Alike Item ItemLike

  pub items_like : (xs ys : List Item) → validate_items U xs ≡ yes ys → ItemsLike xs ys
  unfolding validate_items
  items_like [] ys e = subst (ItemsLike []) (yes_inj _ ys e) k_nil
  items_like (item d ∷ rest) ys e =
      let (u, eu, e1) = after-yes (validate_macro_args d) _ ys e in
      let (bs, eb, e2) = after-yes (validate_alternatives U d.args d.alternatives) _ ys e1 in
      let (rs, er, e3) = after-yes (validate_items U rest) _ ys e2 in
      subst (ItemsLike (item d ∷ rest)) (yes_inj _ ys e3)
      (k_cons (record { name = refl; args = refl; global = refl; alternatives = alternatives_like U d.args d.alternatives bs eb }) (items_like rest rs er))
  items_like (Item.terminal s o t ∷ rest) ys e =
      let (rs, er, e1) = after-yes (validate_items U rest) _ ys e in
      subst (ItemsLike (Item.terminal s o t ∷ rest)) (yes_inj _ ys e1) (k_cons refl (items_like rest rs er))

  -- an item of one tree has its like in the other
  pub item_to : {xs ys : List Item} → ItemsLike xs ys → (d : Nonterminal) → Memᴰ (item d) xs → (e : Nonterminal) × Memᴰ (item e) ys × Like d e
  item_to {ys} h d i = let (y, j, l) = alike_to Item ItemLike h (item d) i in go y j l
    where
      go : (y : Item) → Memᴰ y ys → ItemLike (item d) y → (e : Nonterminal) × Memᴰ (item e) ys × Like d e
      go (item e) j l = (e, j, l)
      go (Item.terminal s o t) j l = absurd l

  pub item_from : {xs ys : List Item} → ItemsLike xs ys → (e : Nonterminal) → Memᴰ (item e) ys → (d : Nonterminal) × Memᴰ (item d) xs × Like d e
  item_from {xs} h e i = let (x, j, l) = alike_from Item ItemLike h (item e) i in go x j l
    where
      go : (x : Item) → Memᴰ x xs → ItemLike x (item e) → (d : Nonterminal) × Memᴰ (item d) xs × Like d e
      go (item d) j l = (d, j, l)
      go (Item.terminal s o t) j l = absurd l

  terminal_like : (x y : Item) → ItemLike x y → (n : Text) (xs ys : List Item) → is_terminal ys n ≡ is_terminal xs n → is_terminal (y ∷ ys) n ≡ is_terminal (x ∷ xs) n
  terminal_like (item d) (item e) h n xs ys k = k
  terminal_like (item d) (Item.terminal s o t) h n xs ys k = absurd h
  terminal_like (Item.terminal s o t) (item e) h n xs ys k = absurd h
  terminal_like (Item.terminal s o t) (Item.terminal s' o' t') h n xs ys k = ap₂ (λ (z : Text) (b : Bool). same_as n z || b) h k

  pub terminals_like : {xs ys : List Item} → ItemsLike xs ys → (n : Text) → is_terminal ys n ≡ is_terminal xs n
  terminals_like k_nil n = refl
  terminals_like (k_cons {x = x} {y = y} {xs = xs} {ys = ys} h hs) n = terminal_like x y h n xs ys (terminals_like hs n)

  nonterminal_like : (x y : Item) → ItemLike x y → (xs ys : List Item) → nonterminals ys ≡ nonterminals xs → nonterminals (y ∷ ys) ≡ nonterminals (x ∷ xs)
  nonterminal_like (item d) (item e) h xs ys k = ap₂ {C = List Global} (λ g gs. g ∷ gs) h.global k
  nonterminal_like (item d) (Item.terminal s o t) h xs ys k = absurd h
  nonterminal_like (Item.terminal s o t) (item e) h xs ys k = absurd h
  nonterminal_like (Item.terminal s o t) (Item.terminal s' o' t') h xs ys k = k

  pub nonterminals-like : {xs ys : List Item} → ItemsLike xs ys → nonterminals ys ≡ nonterminals xs
  nonterminals-like k_nil = refl
  nonterminals-like (k_cons {x = x} {y = y} {xs = xs} {ys = ys} h hs) = nonterminal_like x y h xs ys (nonterminals-like hs)
