-- What leaves the pile, lists of items put together, and a tree without its macros. Assumes nothing.
use mathlib.Core.Path.{◌≡◌, refl, sym, ap, ◌∙◌, subst}
use mathlib.Core.Logic.{◌⊎◌, inl, inr}
use mathlib.Core.Bool.{Bool, true, false, cond, ◌||◌}
use mathlib.Core.List.Memᴰ
use mathlib.Core.List.{List, [], ◌∷◌, ◌++◌, Memᴰ, nil≢cons}
use mathlib.Core.Option.{Option, none, some}
use Rattle.octets.specs.Plain.Runs.{same_as}
use Rattle.parse_tree.specs.Plain.Tree.{Text, Op, star, plus, question, Over, Sym, Syms, macro, group, over, Nonterminal, Item, item}
use Rattle.parse_tree.specs.Plain.Display.{print}
use Rattle.parse_tree.specs.declared.syntax.Span.{Span}
use Rattle.passes.specs.Outcome.{Tree, Outcome, yes, no, simple}
use Rattle.meaning.specs.Meaning.{is_terminal}
use Rattle.passes.specs.Views.{Look, ahead, behind}
use Rattle.passes.specs.Macros.{Pending, looking, repeating, listing, symbol_of, expand_lookaround_symbol, MacroExpander, replace_items, expand_alternatives, macro_in, expand_macro_symbol, made, has_name, group_action, expand_repeat_symbol, expand_over, expand_symbol, drain, without_macros}
use Rattle.meaning.specs.Premises.{HasItem}
use Rattle.meaning.proofs.Basics.{item_inj, item≢terminal}
use Rattle.passes.proofs.Outcomes.{no≢yes, yes_inj, after-yes}
use Rattle.meaning.proofs.Macros.Replacing.{items_keep}

-- ---- the item of a symbol bears its printed form
module _ (G : Tree) where
  abbrev Bears : Text → Nonterminal → Type 0
  Bears n d = (d.name ≡ n) × (d.args ≡ [])

  take : (n : Text) (d d' : Nonterminal) → ◌≡◌ {A = Outcome Nonterminal} (yes d) (yes d') → Bears n d → Bears n d'
  take n d d' e r = subst (Bears n) (yes_inj d d' e) r

  look_bears : (s : Span) (n : Text) (k : Look) → Bears n (expand_lookaround_symbol s n k)
  look_bears s n ahead = (refl, refl)
  look_bears s n behind = (refl, refl)

  repeat_bears : (s : Span) (n : Text) (o : Op) (x : Sym) → Bears n (expand_repeat_symbol s n o x)
  repeat_bears s n star x = (refl, refl)
  repeat_bears s n plus x = (refl, refl)
  repeat_bears s n question x = (refl, refl)

  macro_bears : (s : Span) (n : Text) (xs : Syms) (f : Option Nonterminal) (d : Nonterminal) → expand_macro_symbol s n xs f ≡ yes d → Bears n d
  macro_bears s n xs none d e = absurd (no≢yes _ _ _ e)
  macro_bears s n xs (some x) d e = let (r, er, q) = after-yes (expand_alternatives s x.args xs x.alternatives) _ d e in take n _ d q (refl, refl)

  group_bears : (s : Span) (n : Text) (xs : Syms) (b : Bool) (d : Nonterminal) → cond b (no 19 s) (yes (made s n true (simple s (group_action xs) xs ∷ []))) ≡ yes d → Bears n d
  group_bears s n xs true d e = absurd (no≢yes _ _ _ e)
  group_bears s n xs false d e = take n _ d e (refl, refl)

  over_bears : (s : Span) (n : Text) (o : Over) (xs : Syms) (d : Nonterminal) → expand_over G s n o xs ≡ yes d → Bears n d
  over_bears s n (macro t) xs d e = macro_bears s n xs (macro_in G t) d e
  over_bears s n group xs d e = group_bears s n xs (has_name xs) d e

  pub bears : (x : Pending) (d : Nonterminal) → expand_symbol G x ≡ yes d → Bears (print (symbol_of x)) d
  unfolding expand_symbol
  bears (looking s k) d e = take _ _ d e (look_bears s _ k)
  bears (repeating s o x) d e = take _ _ d e (repeat_bears s _ o x)
  bears (listing s o xs) d e = over_bears s (print (over s o xs)) o xs d e

  -- ---- the pile taken down
  pub drain-in : (xs : List Pending) (new : List Item) → drain G xs ≡ yes new → (x : Pending) → Memᴰ x xs → (d : Nonterminal) × Memᴰ (item d) new × (expand_symbol G x ≡ yes d)
  unfolding drain
  drain-in [] new e x i = absurd (Memᴰ.not-nil i)
  drain-in (y ∷ xs) new e x (Memᴰ.head q) =
      let (d, ed, e1) = after-yes (expand_symbol G y) _ new e in
      let (ds, eds, e2) = after-yes (drain G xs) _ new e1 in
      (d, subst (λ (l : List Item). Memᴰ (item d) l) (yes_inj _ new e2) (Memᴰ.head refl), subst (λ (z : Pending). expand_symbol G z ≡ yes d) (sym q) ed)
  drain-in (y ∷ xs) new e x (Memᴰ.tail i) =
      let (d, ed, e1) = after-yes (expand_symbol G y) _ new e in
      let (ds, eds, e2) = after-yes (drain G xs) _ new e1 in
      let (d', j, e') = drain-in xs ds eds x i in
      (d', subst (λ (l : List Item). Memᴰ (item d') l) (yes_inj _ new e2) (Memᴰ.tail j), e')

  abbrev From : List Pending → Nonterminal → Type 0
  From xs d = (x : Pending) × Memᴰ x xs × (expand_symbol G x ≡ yes d)

  pub drain-out : (xs : List Pending) (new : List Item) → drain G xs ≡ yes new → (d : Nonterminal) → Memᴰ (item d) new → From xs d
  unfolding drain
  drain-out [] new e d i = absurd (Memᴰ.not-nil (subst (λ (l : List Item). Memᴰ (item d) l) (sym (yes_inj _ new e)) i))
  drain-out (y ∷ xs) new e d i =
      let (d', ed, e1) = after-yes (expand_symbol G y) _ new e in
      let (ds, eds, e2) = after-yes (drain G xs) _ new e1 in
      go d' ed ds (subst (λ (l : List Item). Memᴰ (item d) l) (sym (yes_inj _ new e2)) i) (drain-out xs ds eds d)
    where
      go : (d' : Nonterminal) → expand_symbol G y ≡ yes d' → (ds : List Item) → Memᴰ (item d) (item d' ∷ ds) → (Memᴰ (item d) ds → From xs d) → From (y ∷ xs) d
      go d' ed ds (Memᴰ.head q) k = (y, Memᴰ.head refl, subst (λ (z : Nonterminal). expand_symbol G y ≡ yes z) (sym (item_inj d d' q)) ed)
      go d' ed ds (Memᴰ.tail j) k = let (x, j', e') = k j in (x, Memᴰ.tail j', e')

  pub drain-terminals : (xs : List Pending) (new : List Item) → drain G xs ≡ yes new → (n : Text) → is_terminal new n ≡ false
  unfolding drain
  drain-terminals [] new e n = ap (λ (l : List Item). is_terminal l n) (sym (yes_inj _ new e))
  drain-terminals (y ∷ xs) new e n =
      let (d, ed, e1) = after-yes (expand_symbol G y) _ new e in
      let (ds, eds, e2) = after-yes (drain G xs) _ new e1 in
      ap (λ (l : List Item). is_terminal l n) (sym (yes_inj _ new e2)) ∙ drain-terminals xs ds eds n

-- ---- lists of items
pub has_left : (a b : List Item) (n : Text) → HasItem a n → HasItem (a ++ b) n
has_left a b n (d, i, e, p) = (d, Memᴰ.append_left b i, e, p)

pub has_right : (a b : List Item) (n : Text) → HasItem b n → HasItem (a ++ b) n
has_right a b n (d, i, e, p) = (d, Memᴰ.append_right a i, e, p)

pub has-replaced : (a b : List Item) (σ : MacroExpander) (n : Text) → HasItem (a ++ b) n → HasItem (a ++ (replace_items b σ).0) n
has-replaced a b σ n (d, i, e, p) = go (Memᴰ.append_cases a i)
  where
    go : Memᴰ (item d) a ⊎ Memᴰ (item d) b → HasItem (a ++ (replace_items b σ).0) n
    go (inl j) = has_left a (replace_items b σ).0 n (d, j, e, p)
    go (inr j) = has_right a (replace_items b σ).0 n (items_keep b σ n (d, j, e, p))

-- ---- the tree without its macros
abbrev Kept : Nonterminal → List Text → Tree → Tree
Kept x l rest = elim l [ [] ↦ item x ∷ rest | p ∷ ps ↦ rest ]

abbrev PlainIn : Tree → Nonterminal → Type 0
PlainIn G d = Memᴰ (item d) G × (d.args ≡ [])

plain-later : (G : Tree) (d : Nonterminal) (i : Item) → PlainIn G d → PlainIn (i ∷ G) d
plain-later G d i (j, p) = (Memᴰ.tail j, p)

pub plain_in : (G : Tree) (d : Nonterminal) → Memᴰ (item d) (without_macros G) → PlainIn G d
plain_in [] d i = absurd (Memᴰ.not-nil i)
plain_in (item x ∷ rest) d i = go x.args refl i (plain_in rest d)
  where
    cases : x.args ≡ [] → Memᴰ (item d) (item x ∷ without_macros rest) → (Memᴰ (item d) (without_macros rest) → PlainIn rest d) → PlainIn (item x ∷ rest) d
    cases a (Memᴰ.head e) k = (Memᴰ.head e, ap (λ (z : Nonterminal). z.args) (item_inj d x e) ∙ a)
    cases a (Memᴰ.tail j) k = plain-later rest d (item x) (k j)

    go : (l : List Text) → x.args ≡ l → Memᴰ (item d) (Kept x l (without_macros rest)) → (Memᴰ (item d) (without_macros rest) → PlainIn rest d) → PlainIn (item x ∷ rest) d
    go [] a j k = cases a j k
    go (p ∷ ps) a j k = plain-later rest d (item x) (k j)
plain_in (Item.terminal s o t ∷ rest) d (Memᴰ.head e) = absurd (item≢terminal d s o t e)
plain_in (Item.terminal s o t ∷ rest) d (Memᴰ.tail i) = plain-later rest d (Item.terminal s o t) (plain_in rest d i)

pub plain-has : (G : Tree) (d : Nonterminal) → Memᴰ (item d) G → d.args ≡ [] → Memᴰ (item d) (without_macros G)
plain-has [] d i p = absurd (Memᴰ.not-nil i)
plain-has (item x ∷ rest) d i p = go x.args refl i (λ j. plain-has rest d j p)
  where
    cases : (z : Tree) → Memᴰ (item d) (item x ∷ rest) → (Memᴰ (item d) rest → Memᴰ (item d) z) → Memᴰ (item d) (item x ∷ z)
    cases z (Memᴰ.head e) k = Memᴰ.head e
    cases z (Memᴰ.tail j) k = Memᴰ.tail (k j)

    not_first : (q : Text) (qs : List Text) → x.args ≡ q ∷ qs → Memᴰ (item d) (item x ∷ rest) → Memᴰ (item d) rest
    not_first q qs a (Memᴰ.head e) = absurd (nil≢cons (sym p ∙ ap (λ (z : Nonterminal). z.args) (item_inj d x e) ∙ a))
    not_first q qs a (Memᴰ.tail j) = j

    go : (l : List Text) → x.args ≡ l → Memᴰ (item d) (item x ∷ rest) → (Memᴰ (item d) rest → Memᴰ (item d) (without_macros rest)) → Memᴰ (item d) (Kept x l (without_macros rest))
    go [] a j k = cases (without_macros rest) j k
    go (q ∷ qs) a j k = k (not_first q qs a j)
plain-has (Item.terminal s o t ∷ rest) d (Memᴰ.head e) p = absurd (item≢terminal d s o t e)
plain-has (Item.terminal s o t ∷ rest) d (Memᴰ.tail i) p = Memᴰ.tail (plain-has rest d i p)

pub plain-terminals : (G : Tree) (n : Text) → is_terminal (without_macros G) n ≡ is_terminal G n
plain-terminals [] n = refl
plain-terminals (item x ∷ rest) n = go x.args ∙ plain-terminals rest n
  where
    go : (l : List Text) → is_terminal (Kept x l (without_macros rest)) n ≡ is_terminal (without_macros rest) n
    go [] = refl
    go (p ∷ ps) = refl
plain-terminals (Item.terminal s o t ∷ rest) n = ap (same_as n t ||◌) (plain-terminals rest n)
