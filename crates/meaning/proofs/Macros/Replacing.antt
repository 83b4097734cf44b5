-- Replacing keeps what a symbol says, leaves nothing to expand, and pushes only symbols that say something. Assumes nothing.
use mathlib.Core.Path.{◌≡◌, refl, sym, ap, ◌∙◌, subst}
use mathlib.Core.Logic.{◌⊎◌, inl, inr}
use mathlib.Core.Bool.{Bool, true, false, cond, ◌||◌}
use mathlib.Core.List.Memᴰ
use mathlib.Core.List.{List, [], ◌∷◌, Memᴰ}
use Rattle.octets.specs.Plain.Runs.{same_as}
use Rattle.parse_tree.specs.Plain.Tree.{Text, Leaf, Around, Over, Sym, Syms, ambiguous, bare, quoted, regex, nonterminal, lookahead, lookbehind, error, repeat, choose, name, macro, group, leaf, around, over, nil, cons, Alternative, Nonterminal, Item, item}
use Rattle.parse_tree.specs.Plain.Texts.{has}
use Rattle.parse_tree.specs.Plain.Display.{print}
use Rattle.parse_tree.specs.declared.syntax.Span.{Span}
use Rattle.passes.specs.Outcome.{Tree, with_symbols, with_alternatives}
use Rattle.meaning.specs.Phrases.{Phrase, Phrases}
use Rattle.meaning.specs.Meaning.{is_terminal, mean_around, mean_over}
use Rattle.passes.specs.Views.{ahead, behind}
use Rattle.passes.specs.Macros.{Pending, looking, repeating, listing, symbol_of, MacroExpander, push, replace_around, replace_symbol, replace_symbols, replace_alternatives, replace_items}
use Rattle.meaning.specs.Premises.{HasItem, is_flat}
use Rattle.meaning.proofs.Basics.{item_inj, item≢terminal}
use Rattle.parse_tree.proofs.AmongLaws.{has_here, has-later, has-cases}
use Rattle.meaning.proofs.Predicates.{IdentAround, OkayOver, Arity, is_compound}
use Rattle.meaning.proofs.Macros.Sources.{SrcLeaf, Src, Srcs, s_leaf, s_around, s_over, s_nil, s_cons, name_of}
use Rattle.meaning.proofs.Macros.Certificate.{FlatSrcs, Made}

-- ---- what `push` keeps, replacing keeps
module _ (P : MacroExpander → Type 0) (pushes : (x : Pending) (σ : MacroExpander) → P σ → P (push x σ).1) where
  keeps_leaf : (s : Span) (l : Leaf) (σ : MacroExpander) → P σ → P (replace_symbol (leaf s l) σ).1
  unfolding replace_symbol
  keeps_leaf s (ambiguous n) σ h = h
  keeps_leaf s (bare n) σ h = h
  keeps_leaf s (quoted t) σ h = h
  keeps_leaf s (regex t) σ h = h
  keeps_leaf s (nonterminal n) σ h = h
  keeps_leaf s lookahead σ h = pushes (looking s ahead) σ h
  keeps_leaf s lookbehind σ h = pushes (looking s behind) σ h
  keeps_leaf s error σ h = h

  keeps_around : (s : Span) (a : Around) (q : Sym × MacroExpander) → P q.1 → P (replace_around s a q).1
  keeps_around s (repeat o) q h = pushes (repeating s o q.0) q.1 h
  keeps_around s choose q h = h
  keeps_around s (name m n) q h = h

  mutual
    unfolding replace_symbol

    pub keeps : (x : Sym) (σ : MacroExpander) → P σ → P (replace_symbol x σ).1
    keeps (leaf s l) σ h = keeps_leaf s l σ h
    keeps (around s a x) σ h = keeps_around s a (replace_symbol x σ) (keeps x σ h)
    keeps (over s o xs) σ h = pushes (listing s o (replace_symbols xs σ).0) (replace_symbols xs σ).1 (keeps_all xs σ h)

    pub keeps_all : (xs : Syms) (σ : MacroExpander) → P σ → P (replace_symbols xs σ).1
    keeps_all nil σ h = h
    keeps_all (cons x xs) σ h = keeps_all xs (replace_symbol x σ).1 (keeps x σ h)

  pub keeps_alternatives : (as' : List Alternative) (σ : MacroExpander) → P σ → P (replace_alternatives as' σ).1
  unfolding replace_alternatives
  keeps_alternatives [] σ h = h
  keeps_alternatives (a ∷ rest) σ h = keeps_alternatives rest (replace_symbols a.symbols σ).1 (keeps_all a.symbols σ h)

  pub keeps_items : (is : List Item) (σ : MacroExpander) → P σ → P (replace_items is σ).1
  unfolding replace_items
  keeps_items [] σ h = h
  keeps_items (item d ∷ rest) σ h = keeps_items rest (replace_alternatives d.alternatives σ).1 (keeps_alternatives d.alternatives σ h)
  keeps_items (Item.terminal s o t ∷ rest) σ h = keeps_items rest σ h

-- ---- keys only grow
abbrev pub Has : Text → MacroExpander → Type 0
Has k σ = has k σ.keys ≡ true

abbrev with_pushed : Pending → MacroExpander → MacroExpander
with_pushed x σ = record { keys = print (symbol_of x) ∷ σ.keys; pile = x ∷ σ.pile }

push-grows : (k : Text) (x : Pending) (σ : MacroExpander) → Has k σ → Has k (push x σ).1
unfolding push
push-grows k x σ h = go (has (print (symbol_of x)) σ.keys)
  where
    go : (b : Bool) → Has k (cond b σ (with_pushed x σ))
    go true = h
    go false = has-later k (print (symbol_of x)) σ.keys h

push-self : (x : Pending) (σ : MacroExpander) → Has (print (symbol_of x)) (push x σ).1
unfolding push
push-self x σ = go (has (print (symbol_of x)) σ.keys) refl
  where
    go : (b : Bool) → has (print (symbol_of x)) σ.keys ≡ b → Has (print (symbol_of x)) (cond b σ (with_pushed x σ))
    go true e = e
    go false e = has_here (print (symbol_of x)) σ.keys

-- ---- every key was there before or is that of a symbol on the pile
module _ (before : List Text) where
  abbrev pub Key : List Pending → Text → Type 0
  Key pile k = (has k before ≡ true) ⊎ ((x : Pending) × Memᴰ x pile × (k ≡ print (symbol_of x)))

  abbrev Keys : MacroExpander → Type 0
  Keys σ = (k : Text) → Has k σ → Key σ.pile k

  push-keys : (x : Pending) (σ : MacroExpander) → Keys σ → Keys (push x σ).1
  unfolding push
  push-keys x σ v = go (has (print (symbol_of x)) σ.keys)
    where
      old : (k : Text) → Key σ.pile k → Key (x ∷ σ.pile) k
      old k (inl b) = inl b
      old k (inr (y, i, e)) = inr (y, Memᴰ.tail i, e)

      one : (k : Text) → (print (symbol_of x) ≡ k) ⊎ Has k σ → Key (x ∷ σ.pile) k
      one k (inl e) = inr (x, Memᴰ.head refl, sym e)
      one k (inr b) = old k (v k b)

      go : (b : Bool) → Keys (cond b σ (with_pushed x σ))
      go true = v
      go false = λ k b. one k (has-cases k (print (symbol_of x)) σ.keys b)

  pub items_keys : (is : List Item) (σ : MacroExpander) → Keys σ → Keys (replace_items is σ).1
  items_keys = keeps_items Keys push-keys

-- ---- symbols
arity_replaced : (ps : List Text) (xs : Syms) (σ : MacroExpander) → Arity ps xs → Arity ps (replace_symbols xs σ).0
unfolding replace_symbol
arity_replaced [] nil σ h = h
arity_replaced [] (cons x xs) σ h = h
arity_replaced (p ∷ ps) nil σ h = h
arity_replaced (p ∷ ps) (cons x xs) σ h = arity_replaced ps xs (replace_symbol x σ).1 h

okay_replaced : (G : Tree) (o : Over) (xs : Syms) (σ : MacroExpander) → OkayOver G [] o xs → OkayOver G [] o (replace_symbols xs σ).0
okay_replaced G (macro n) xs σ (d, i, e, ne, ar, id) = (d, i, e, ne, arity_replaced d.args xs σ ar, id)
okay_replaced G group xs σ k = tt

module _ (G : Tree) (Known : Text → Type 0) where
  -- each key is known in the end; so it was at each point before
  abbrev pub AllKnown : MacroExpander → Type 0
  AllKnown σ = (k : Text) → Has k σ → Known k

  -- every symbol on the pile says something
  abbrev pub Sayings : MacroExpander → Type 0
  Sayings σ = (x : Pending) → Memᴰ x σ.pile → (m : Phrase) × Src G Known (symbol_of x) m

  -- what replacing a symbol that says m comes to, from σ on
  abbrev Turned : MacroExpander → Sym × MacroExpander → Phrase → Type 0
  Turned σ q m = Src G Known q.0 m × (is_flat q.0 ≡ true) × (Sayings σ → Sayings q.1)

  abbrev AllTurned : MacroExpander → Syms × MacroExpander → Phrases → Type 0
  AllTurned σ q ms = FlatSrcs G Known q.0 ms × (Sayings σ → Sayings q.1)

  push-sayings : (x : Pending) (σ : MacroExpander) {m : Phrase} → Src G Known (symbol_of x) m → Sayings σ → Sayings (push x σ).1
  unfolding push
  push-sayings x σ {m} h v = go (has (print (symbol_of x)) σ.keys)
    where
      on_pile : (y : Pending) → Memᴰ y (x ∷ σ.pile) → (k : Phrase) × Src G Known (symbol_of y) k
      on_pile y (Memᴰ.head e) = (m, subst (λ (z : Pending). Src G Known (symbol_of z) m) (sym e) h)
      on_pile y (Memᴰ.tail i) = v y i

      go : (b : Bool) → Sayings (cond b σ (with_pushed x σ))
      go true = v
      go false = on_pile

  -- a symbol pushed after a walk from σ to τ
  push-turned : (x : Pending) (σ τ : MacroExpander) {m : Phrase} → AllKnown (push x τ).1 → Src G Known (symbol_of x) m → is_compound m ≡ true → (Sayings σ → Sayings τ) → Turned σ (push x τ) m
  unfolding push
  push-turned x σ τ f h e v = (s_leaf {l = nonterminal (print (symbol_of x))} (name_of G Known h e, f (print (symbol_of x)) (push-self x τ)), refl, λ w. push-sayings x τ h (v w))

  leaf_turned : (s : Span) (l : Leaf) (σ : MacroExpander) {m : Phrase} → SrcLeaf G Known l m → AllKnown (replace_symbol (leaf s l) σ).1 → Turned σ (replace_symbol (leaf s l) σ) m
  unfolding replace_symbol
  leaf_turned s (ambiguous n) σ h f = absurd h
  leaf_turned s (bare n) σ h f = (s_leaf h, refl, λ w. w)
  leaf_turned s (quoted t) σ h f = (s_leaf h, refl, λ w. w)
  leaf_turned s (regex t) σ h f = (s_leaf h, refl, λ w. w)
  leaf_turned s (nonterminal n) σ h f = (s_leaf h, refl, λ w. w)
  leaf_turned s lookahead σ h f = push-turned (looking s ahead) σ σ f (s_leaf h) (ap is_compound h.1) (λ w. w)
  leaf_turned s lookbehind σ h f = push-turned (looking s behind) σ σ f (s_leaf h) (ap is_compound h.1) (λ w. w)
  leaf_turned s error σ h f = (s_leaf h, refl, λ w. w)

  around_turned : (s : Span) (a : Around) (σ : MacroExpander) (q : Sym × MacroExpander) {k m : Phrase} → IdentAround a → m ≡ mean_around G [] a k →
      AllKnown (replace_around s a q).1 → (AllKnown q.1 → Turned σ q k) → Turned σ (replace_around s a q) m
  around_turned s (repeat o) σ q i e f t =
      let (h, _, v) = t (λ k b. f k (push-grows k (repeating s o q.0) q.1 b)) in
      push-turned (repeating s o q.0) σ q.1 f (s_around i h e) (ap is_compound e) v
  around_turned s choose σ q i e f t = let (h, b, v) = t f in (s_around i h e, b, v)
  around_turned s (name m n) σ q i e f t = let (h, b, v) = t f in (s_around i h e, b, v)

  over_compound : (o : Over) (ks : Phrases) → is_compound (mean_over G [] o ks) ≡ true
  over_compound (macro n) ks = refl
  over_compound group ks = refl

  mutual
    unfolding replace_symbol

    pub turned : {x : Sym} {m : Phrase} → Src G Known x m → (σ : MacroExpander) → AllKnown (replace_symbol x σ).1 → Turned σ (replace_symbol x σ) m
    turned (s_leaf {s = s} {l = l} h) σ f = leaf_turned s l σ h f
    turned (s_around {s = s} {a = a} {x = x} i h e) σ f = around_turned s a σ (replace_symbol x σ) i e f (turned h σ)
    turned (s_over {s = s} {o = o} {xs = xs} {ks = ks} k hs e) σ f =
        let y = listing s o (replace_symbols xs σ).0 in
        let τ = (replace_symbols xs σ).1 in
        let (hs', v) = all_turned hs σ (λ n b. f n (push-grows n y τ b)) in
        push-turned y σ τ f (s_over (okay_replaced G o xs σ k) hs'.0 e) (ap is_compound e ∙ over_compound o ks) v

    pub all_turned : {xs : Syms} {ms : Phrases} → Srcs G Known xs ms → (σ : MacroExpander) → AllKnown (replace_symbols xs σ).1 → AllTurned σ (replace_symbols xs σ) ms
    all_turned s_nil σ f = ((s_nil, tt), λ w. w)
    all_turned (s_cons {x = x} {xs = xs} h hs) σ f =
        let τ = (replace_symbol x σ).1 in
        let (h', b, v) = turned h σ (λ k p. f k (keeps_all (Has k) (push-grows k) xs τ p)) in
        let (hs', v') = all_turned hs τ f in
        ((s_cons h' hs'.0, (b, hs'.1)), λ w. v' (v w))

  -- ---- alternatives
  -- b is a replaced
  abbrev Becomes : Alternative → Alternative → Type 0
  Becomes a b = (ms : Phrases) → Srcs G Known a.symbols ms → FlatSrcs G Known b.symbols ms

  -- the first of several, with its symbols replaced
  first_becomes : (x : Alternative) (rest : List Alternative) (σ : MacroExpander) → AllKnown (replace_alternatives (x ∷ rest) σ).1 → Becomes x (with_symbols x (replace_symbols x.symbols σ).0)
  unfolding replace_alternatives
  first_becomes x rest σ f ms h = (all_turned h σ (λ k b. f k (keeps_alternatives (Has k) (push-grows k) rest (replace_symbols x.symbols σ).1 b))).0

  alternatives_to : (as' : List Alternative) (σ : MacroExpander) → AllKnown (replace_alternatives as' σ).1 →
      (a : Alternative) → Memᴰ a as' → (b : Alternative) × Memᴰ b (replace_alternatives as' σ).0 × Becomes a b
  unfolding replace_alternatives
  alternatives_to [] σ f a i = absurd (Memᴰ.not-nil i)
  alternatives_to (x ∷ rest) σ f a (Memᴰ.head e) =
      let b = with_symbols x (replace_symbols x.symbols σ).0 in
      (b, Memᴰ.head refl, subst (λ (z : Alternative). Becomes z b) (sym e) (first_becomes x rest σ f))
  alternatives_to (x ∷ rest) σ f a (Memᴰ.tail i) =
      let (b, j, t) = alternatives_to rest (replace_symbols x.symbols σ).1 f a i in (b, Memᴰ.tail j, t)

  alternatives_from : (as' : List Alternative) (σ : MacroExpander) → AllKnown (replace_alternatives as' σ).1 →
      (b : Alternative) → Memᴰ b (replace_alternatives as' σ).0 → (a : Alternative) × Memᴰ a as' × Becomes a b
  unfolding replace_alternatives
  alternatives_from [] σ f b i = absurd (Memᴰ.not-nil i)
  alternatives_from (x ∷ rest) σ f b (Memᴰ.head e) = (x, Memᴰ.head refl, subst (λ (z : Alternative). Becomes x z) (sym e) (first_becomes x rest σ f))
  alternatives_from (x ∷ rest) σ f b (Memᴰ.tail i) =
      let (a, j, t) = alternatives_from rest (replace_symbols x.symbols σ).1 f b i in (a, Memᴰ.tail j, t)

  abbrev Saying : List Alternative → Type 0
  Saying as' = (a : Alternative) → Memᴰ a as' → (ms : Phrases) × Srcs G Known a.symbols ms

  alternatives_sayings : (as' : List Alternative) (σ : MacroExpander) → AllKnown (replace_alternatives as' σ).1 → Saying as' → Sayings σ → Sayings (replace_alternatives as' σ).1
  unfolding replace_alternatives
  alternatives_sayings [] σ f h v = v
  alternatives_sayings (x ∷ rest) σ f h v =
      let τ = (replace_symbols x.symbols σ).1 in
      let q = all_turned (h x (Memᴰ.head refl)).1 σ (λ k b. f k (keeps_alternatives (Has k) (push-grows k) rest τ b)) in
      alternatives_sayings rest τ f (λ a i. h a (Memᴰ.tail i)) (q.1 v)

  -- ---- items
  abbrev pub Sourced : Nonterminal → Type 0
  Sourced = Made G (Srcs G Known)

  abbrev pub Replaced : Nonterminal → Type 0
  Replaced = Made G (FlatSrcs G Known)

  abbrev replaced : Nonterminal → MacroExpander → Nonterminal
  replaced d σ = with_alternatives d (replace_alternatives d.alternatives σ).0

  item_made : (d : Nonterminal) (σ : MacroExpander) → AllKnown (replace_alternatives d.alternatives σ).1 → Sourced d → Replaced (replaced d σ)
  item_made d σ f h = record {
    says = h.says;
    named = h.named;
    plain = h.plain;
    forth = λ b i. let (a, j, t) = alternatives_from d.alternatives σ f b i in let (ms, st, hs) = h.forth a j in (ms, st, t ms hs);
    back = λ ms st. let (a, i, hs) = h.back ms st in let (b, j, t) = alternatives_to d.alternatives σ f a i in (b, j, t ms hs);
  }

  abbrev AllSourced : List Item → Type 0
  AllSourced is = (d : Nonterminal) → Memᴰ (item d) is → Sourced d

  pub items_made : (is : List Item) (σ : MacroExpander) → AllKnown (replace_items is σ).1 → AllSourced is → (d : Nonterminal) → Memᴰ (item d) (replace_items is σ).0 → Replaced d
  unfolding replace_items
  items_made [] σ f h d i = absurd (Memᴰ.not-nil i)
  items_made (item x ∷ rest) σ f h d (Memᴰ.head e) =
      let τ = (replace_alternatives x.alternatives σ).1 in
      subst Replaced (sym (item_inj d (replaced x σ) e)) (item_made x σ (λ k b. f k (keeps_items (Has k) (push-grows k) rest τ b)) (h x (Memᴰ.head refl)))
  items_made (item x ∷ rest) σ f h d (Memᴰ.tail i) = items_made rest (replace_alternatives x.alternatives σ).1 f (λ y j. h y (Memᴰ.tail j)) d i
  items_made (Item.terminal s o t ∷ rest) σ f h d (Memᴰ.head e) = absurd (item≢terminal d s o t e)
  items_made (Item.terminal s o t ∷ rest) σ f h d (Memᴰ.tail i) = items_made rest σ f (λ y j. h y (Memᴰ.tail j)) d i

  pub items_sayings : (is : List Item) (σ : MacroExpander) → AllKnown (replace_items is σ).1 → AllSourced is → Sayings σ → Sayings (replace_items is σ).1
  unfolding replace_items
  items_sayings [] σ f h v = v
  items_sayings (item x ∷ rest) σ f h v =
      let τ = (replace_alternatives x.alternatives σ).1 in
      let says : Saying x.alternatives = λ a i. let (ms, st, hs) = (h x (Memᴰ.head refl)).forth a i in (ms, hs) in
      items_sayings rest τ f (λ d j. h d (Memᴰ.tail j)) (alternatives_sayings x.alternatives σ (λ k b. f k (keeps_items (Has k) (push-grows k) rest τ b)) says v)
  items_sayings (Item.terminal s o t ∷ rest) σ f h v = items_sayings rest σ f (λ d j. h d (Memᴰ.tail j)) v

-- ---- names and terminals stay
pub items_keep : (is : List Item) (σ : MacroExpander) (n : Text) → HasItem is n → HasItem (replace_items is σ).0 n
unfolding replace_items
items_keep [] σ n (d, i, e, p) = absurd (Memᴰ.not-nil i)
items_keep (item x ∷ rest) σ n (d, Memᴰ.head q, e, p) =
    let z = item_inj d x q in
    (with_alternatives x (replace_alternatives x.alternatives σ).0, Memᴰ.head refl, subst (λ (y : Nonterminal). y.name ≡ n) z e, subst (λ (y : Nonterminal). y.args ≡ []) z p)
items_keep (item x ∷ rest) σ n (d, Memᴰ.tail i, e, p) = let (b, j, e', p') = items_keep rest (replace_alternatives x.alternatives σ).1 n (d, i, e, p) in (b, Memᴰ.tail j, e', p')
items_keep (Item.terminal s o t ∷ rest) σ n (d, Memᴰ.head q, e, p) = absurd (item≢terminal d s o t q)
items_keep (Item.terminal s o t ∷ rest) σ n (d, Memᴰ.tail i, e, p) = let (b, j, e', p') = items_keep rest σ n (d, i, e, p) in (b, Memᴰ.tail j, e', p')

pub items_terminals : (is : List Item) (σ : MacroExpander) (n : Text) → is_terminal (replace_items is σ).0 n ≡ is_terminal is n
unfolding replace_items
items_terminals [] σ n = refl
items_terminals (item x ∷ rest) σ n = items_terminals rest (replace_alternatives x.alternatives σ).1 n
items_terminals (Item.terminal s o t ∷ rest) σ n = ap (same_as n t ||◌) (items_terminals rest σ n)
