-- The item of a symbol has just the alternatives that the symbol has in the tree. Assumes nothing.
use mathlib.Core.Path.{◌≡◌, refl, sym, ap, ◌∙◌, subst}
use mathlib.Core.Logic.{◌≢◌}
use mathlib.Core.Bool.{Bool, true, false, cond, ◌&&◌}
use mathlib.Core.List.Memᴰ
use mathlib.Core.List.{List, [], ◌∷◌, Memᴰ, nil≢cons}
use mathlib.Core.Option.{Option, none, some}
use Rattle.octets.specs.Plain.Runs.{same_as}
use Rattle.octets.proofs.SameLaws.{same_as-eq}
use Rattle.parse_tree.specs.Plain.Tree.{Text, Op, star, plus, question, Over, Sym, Syms, nonterminal, lookahead, lookbehind, repeat, name, macro, group, leaf, around, over, Alternative, Nonterminal, Item, item}
use Rattle.parse_tree.specs.Plain.Texts.{every, starts_name, in_name}
use Rattle.parse_tree.specs.Plain.Display.{print}
use Rattle.parse_tree.specs.declared.syntax.Span.{Span}
use Rattle.passes.specs.Outcome.{Tree, Outcome, yes, no, simple}
use Rattle.meaning.specs.Phrases.{Phrase, Phrases, call, repeated, sequence, pnil, pcons}
use Rattle.meaning.specs.Meaning.{means, puts, holds, Step, s_call, s_sequence, s_question_none, s_question_one, s_star_none, s_star_plus, s_plus_one, s_plus_more}
use Rattle.passes.specs.Views.{Look, ahead, behind}
use Rattle.passes.specs.Macros.{Pending, looking, repeating, listing, symbol_of, expand_alternative, expand_lookaround_symbol, expand_alternatives, macro_in, expand_macro_symbol, made, v_name, e_name, has_name, group_action, expand_repeat_symbol, expand_over, expand_symbol}
use Rattle.meaning.specs.Premises.{HasItem}
use Rattle.meaning.proofs.Basics.{some_inj, none≢some}
use Rattle.passes.proofs.Outcomes.{no≢yes, yes_inj, after-yes}
use Rattle.meaning.proofs.Predicates.{Ident, Arity, OkayOver, Resolved}
use Rattle.meaning.proofs.Macros.Sources.{Name, Src, Srcs, s_leaf, s_around, s_over, s_nil, s_cons, name_of}
use Rattle.meaning.proofs.Macros.Certificate.{Made}
use Rattle.meaning.proofs.Macros.Arguments.{puts_src, condition_decides, alternatives_out, alternatives_in_lem}

-- ---- the macro of a name
abbrev IsMacro : Tree → Text → Nonterminal → Type 0
IsMacro X n d = Memᴰ (item d) X × (d.name ≡ n) × (d.args ≢ [])

macro_later : (X : Tree) (n : Text) (d : Nonterminal) (i : Item) → IsMacro X n d → IsMacro (i ∷ X) n d
macro_later X n d i (j, p, q) = (Memᴰ.tail j, p, q)

macro_found : (X : Tree) (n : Text) (d : Nonterminal) → macro_in X n ≡ some d → IsMacro X n d
macro_found [] n d e = absurd (none≢some d e)
macro_found (item x ∷ rest) n d e = go (same_as x.name n) x.args refl refl e (macro_found rest n d)
  where
    here : same_as x.name n ≡ true → (x.args ≢ []) → x ≡ d → IsMacro (item x ∷ rest) n d
    here t ne q =
        (Memᴰ.head (ap item (sym q)), subst (λ (z : Nonterminal). z.name ≡ n) q (same_as-eq x.name n t), subst (λ (z : Nonterminal). z.args ≢ []) q ne)

    go : (b : Bool) (l : List Text) → same_as x.name n ≡ b → x.args ≡ l →
        cond (b && (elim l [ [] ↦ false | p ∷ ps ↦ true ])) (some x) (macro_in rest n) ≡ some d → (macro_in rest n ≡ some d → IsMacro rest n d) → IsMacro (item x ∷ rest) n d
    go true [] t a q k = macro_later rest n d (item x) (k q)
    go true (p ∷ ps) t a q k = here t (λ z. nil≢cons (sym z ∙ a)) (some_inj x d q)
    go false l t a q k = macro_later rest n d (item x) (k q)
macro_found (Item.terminal s o t ∷ rest) n d e = macro_later rest n d (Item.terminal s o t) (macro_found rest n d e)

-- ---- the alternatives of an item of one or two, and the steps of a phrase
one_of : (x : Alternative) (P : Alternative → Type 0) → P x → (a : Alternative) → Memᴰ a (x ∷ []) → P a
one_of x P px a (Memᴰ.head e) = subst P (sym e) px
one_of x P px a (Memᴰ.tail i) = absurd (Memᴰ.not-nil i)

two_of : (x y : Alternative) (P : Alternative → Type 0) → P x → P y → (a : Alternative) → Memᴰ a (x ∷ y ∷ []) → P a
two_of x y P px py a (Memᴰ.head e) = subst P (sym e) px
two_of x y P px py a (Memᴰ.tail i) = one_of y P py a i

module _ (G : Tree) where
  sequence_steps : {ms xs : Phrases} (P : Phrases → Type 0) → P ms → Step false G (sequence ms) xs → P xs
  sequence_steps P p s_sequence = p

  star_steps : {m : Phrase} {xs : Phrases} (P : Phrases → Type 0) → P pnil → P (pcons (repeated plus m) pnil) → Step false G (repeated star m) xs → P xs
  star_steps P p q s_star_none = p
  star_steps P p q s_star_plus = q

  plus_steps : {m : Phrase} {xs : Phrases} (P : Phrases → Type 0) → P (pcons m pnil) → P (pcons (repeated plus m) (pcons m pnil)) → Step false G (repeated plus m) xs → P xs
  plus_steps P p q s_plus_one = p
  plus_steps P p q s_plus_more = q

  question_steps : {m : Phrase} {xs : Phrases} (P : Phrases → Type 0) → P (pcons m pnil) → P pnil → Step false G (repeated question m) xs → P xs
  question_steps P p q s_question_one = p
  question_steps P p q s_question_none = q

module _ (G : Tree) (Known : Text → Type 0) (known : (n : Text) → HasItem G n → Known n) where
  abbrev S : Sym → Phrase → Type 0
  S = Src G Known

  abbrev Ss : Syms → Phrases → Type 0
  Ss = Srcs G Known

  -- what is asked of an alternative of an item that says m, and of a step of m
  abbrev Forth : Phrase → Alternative → Type 0
  Forth m a = (ms : Phrases) × Step false G m ms × Ss a.symbols ms

  abbrev Back : List Alternative → Phrases → Type 0
  Back as' ms = (a : Alternative) × Memᴰ a as' × Ss a.symbols ms

  second : {x y : Alternative} → Memᴰ y (x ∷ y ∷ [])
  second = Memᴰ.tail (Memᴰ.head refl)

  -- ---- repeats
  v_ident : Ident v_name
  unfolding every starts_name in_name same_as
  v_ident = record { first = refl; rest = refl; no_mut = refl; no_error = refl }

  e_ident : Ident e_name
  unfolding every starts_name in_name same_as
  e_ident = record { first = refl; rest = refl; no_mut = refl; no_error = refl }

  repeat_made : (s : Span) (o : Op) (x : Sym) (m : Phrase) → S x m → Known (print (around s (repeat o) x)) → Made G Ss (expand_repeat_symbol s (print (around s (repeat o) x)) o x)
  repeat_made s star x m h self =
      let again : S (around s (name false v_name) (around s (repeat plus) x)) (repeated plus m) = s_around v_ident (s_around tt h refl) refl in
      record {
        says = repeated star m;
        named = name_of G Known (s_around tt h refl) refl;
        plain = refl;
        forth = two_of _ _ (Forth (repeated star m)) (pnil, s_star_none, s_nil) (pcons (repeated plus m) pnil, s_star_plus, s_cons again s_nil);
        back = λ ms st. star_steps G (Back _) (_, Memᴰ.head refl, s_nil) (_, second, s_cons again s_nil) st;
      }
  repeat_made s plus x m h self =
      let key = print (around s (repeat plus) x) in
      let again : S (around s (name false v_name) (leaf s (nonterminal key))) (repeated plus m) = s_around v_ident (s_leaf {l = nonterminal key} (name_of G Known (s_around {s = s} tt h refl) refl, self)) refl in
      let one : S (around s (name false e_name) x) m = s_around e_ident h refl in
      record {
        says = repeated plus m;
        named = name_of G Known (s_around tt h refl) refl;
        plain = refl;
        forth = two_of _ _ (Forth (repeated plus m)) (pcons m pnil, s_plus_one, s_cons h s_nil) (pcons (repeated plus m) (pcons m pnil), s_plus_more, s_cons again (s_cons one s_nil));
        back = λ ms st. plus_steps G (Back _) (_, Memᴰ.head refl, s_cons h s_nil) (_, second, s_cons again (s_cons one s_nil)) st;
      }
  repeat_made s question x m h self = record {
    says = repeated question m;
    named = name_of G Known (s_around tt h refl) refl;
    plain = refl;
    forth = two_of _ _ (Forth (repeated question m)) (pcons m pnil, s_question_one, s_cons h s_nil) (pnil, s_question_none, s_nil);
    back = λ ms st. question_steps G (Back _) (_, Memᴰ.head refl, s_cons h s_nil) (_, second, s_nil) st;
  }

  -- ---- an item of one alternative
  single_made : (d : Nonterminal) (a : Alternative) (ms : Phrases) → Name G d.name (sequence ms) → d.args ≡ [] → d.alternatives ≡ a ∷ [] → Ss a.symbols ms → Made G Ss d
  single_made d a ms nm p e h = record {
    says = sequence ms;
    named = nm;
    plain = p;
    forth = λ b i. one_of a (Forth (sequence ms)) (ms, s_sequence, h) b (subst (λ (l : List Alternative). Memᴰ b l) e i);
    back = λ ks st. sequence_steps G (Back _) (a, subst (λ (l : List Alternative). Memᴰ a l) (sym e) (Memᴰ.head refl), h) st;
  }

  take : (d d' : Nonterminal) → ◌≡◌ {A = Outcome Nonterminal} (yes d) (yes d') → Made G Ss d → Made G Ss d'
  take d d' e r = subst (Made G Ss) (yes_inj d d' e) r

  -- ---- calls
  module _ (res : Resolved G) where
    abbrev Instance : Nonterminal → Phrases → Alternative → Phrases
    Instance d ms a = puts d.args ms (means G d.args a.symbols)

    abbrev Holding : Nonterminal → Phrases → (Phrases → Type 0) → Type 0
    Holding d ms P = (a : Alternative) → Memᴰ a d.alternatives → holds d.args ms a.condition ≡ true → P (Instance d ms a)

    call_steps : {n : Text} {ms xs : Phrases} (P : Phrases → Type 0) (d : Nonterminal) → Memᴰ (item d) G → d.name ≡ n → Holding d ms P → Step false G (call n ms) xs → P xs
    call_steps {ms} P d g e f (s_call d' a g' e' ne j h q) =
        subst P (sym q) (subst (λ (z : Nonterminal). Holding z ms P) (res.distinct d d' g g' (e ∙ sym e')) f a j h)

    -- the macro d called with xs
    module _ (s : Span) (n : Text) (xs : Syms) (ms : Phrases) (d : Nonterminal) (g : Memᴰ (item d) G) (e : d.name ≡ n) (ne : d.args ≢ [])
        (ar : Arity d.args xs) (i : Ident n) (hs : Ss xs ms) (r : List Alternative) (er : expand_alternatives s d.args xs d.alternatives ≡ yes r) where
      instance_src : (a : Alternative) → Memᴰ a d.alternatives → Ss (expand_alternative s d.args xs a).symbols (Instance d ms a)
      instance_src a j = puts_src G Known known d.args xs ms hs ar a.symbols (res.symbols d g a j)

      call_forth : (b : Alternative) → Memᴰ b r → Forth (call n ms) b
      call_forth b j =
          let (a, k, c, q) = alternatives_out s d.args xs d.alternatives r er b j in (
            Instance d ms a,
            s_call d a g e ne k (condition_decides G Known a.condition true d.args hs c) refl,
            subst (λ (z : Alternative). Ss z.symbols (Instance d ms a)) (sym q) (instance_src a k),
          )

      call_back : Holding d ms (Back r)
      call_back a j h =
          let (t, et, f) = alternatives_in_lem s d.args xs d.alternatives r er a j in
          (expand_alternative s d.args xs a, f (sym (condition_decides G Known a.condition t d.args hs et) ∙ h), instance_src a j)

      call_made : Made G Ss (record { span = s; name = print (over s (macro n) xs); inline = d.inline; public = d.public; args = []; alternatives = r })
      call_made = record {
        says = call n ms;
        named = name_of G Known (s_over {o = macro n} (d, g, e, ne, ar, i) hs refl) refl;
        plain = refl;
        forth = call_forth;
        back = λ ks st. call_steps (Back r) d g e call_back st;
      }

    macro_made : (s : Span) (n : Text) (xs : Syms) (ms : Phrases) → OkayOver G [] (macro n) xs → Ss xs ms →
        (f : Option Nonterminal) → macro_in G n ≡ f → (d : Nonterminal) → expand_macro_symbol s (print (over s (macro n) xs)) xs f ≡ yes d → Made G Ss d
    macro_made s n xs ms k hs none ef d e = absurd (no≢yes _ _ _ e)
    macro_made s n xs ms (x, g, q, ne, ar, i) hs (some y) ef d e =
        let (g', q', ne') = macro_found G n y ef in
        let (r, er, e2) = after-yes (expand_alternatives s y.args xs y.alternatives) _ d e in
        let ar' : Arity y.args xs = subst (λ (z : Nonterminal). Arity z.args xs) (res.distinct x y g g' (q ∙ sym q')) ar in
        take _ d e2 (call_made s n xs ms y g' q' ne' ar' i hs r er)

    -- ---- the other symbols
    group_made : (s : Span) (xs : Syms) (ms : Phrases) → Ss xs ms → (b : Bool) (d : Nonterminal) →
        cond b (no 19 s) (yes (made s (print (over s group xs)) true (simple s (group_action xs) xs ∷ []))) ≡ yes d → Made G Ss d
    group_made s xs ms hs true d e = absurd (no≢yes _ _ _ e)
    group_made s xs ms hs false d e = take _ d e (single_made _ _ ms (name_of G Known (s_over {o = group} tt hs refl) refl) refl refl hs)

    look_made : (s : Span) (k : Look) (d : Nonterminal) → yes (expand_lookaround_symbol s (print (symbol_of (looking s k))) k) ≡ yes d → Made G Ss d
    look_made s ahead d e = take _ d e (single_made _ _ pnil (name_of G Known (s_leaf {l = lookahead} (tt, refl)) refl) refl refl s_nil)
    look_made s behind d e = take _ d e (single_made _ _ pnil (name_of G Known (s_leaf {l = lookbehind} (tt, refl)) refl) refl refl s_nil)

    over_made : (s : Span) (o : Over) (xs : Syms) (ms : Phrases) → OkayOver G [] o xs → Ss xs ms → (d : Nonterminal) → expand_over G s (print (over s o xs)) o xs ≡ yes d → Made G Ss d
    over_made s (macro n) xs ms k hs d e = macro_made s n xs ms k hs (macro_in G n) refl d e
    over_made s group xs ms k hs d e = group_made s xs ms hs (has_name xs) d e

    pub expanded_made : (x : Pending) {m : Phrase} → S (symbol_of x) m → Known (print (symbol_of x)) → (d : Nonterminal) → expand_symbol G x ≡ yes d → Made G Ss d
    unfolding expand_symbol
    expanded_made (looking s k) h self d e = look_made s k d e
    expanded_made (repeating s o x) (s_around {k = k} i h q) self d e = take _ d e (repeat_made s o x k h self)
    expanded_made (listing s o xs) (s_over {ks = ks} k hs q) self d e = over_made s o xs ks k hs d e
