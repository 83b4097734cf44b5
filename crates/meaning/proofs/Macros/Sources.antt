-- The symbols of a stage: each stands for a symbol of the tree before expansion, and has its printed form. Assumes nothing.
use mathlib.Core.Path.{◌≡◌, refl, sym, ap, ap₂, ◌∙◌}
use mathlib.Core.Bool.{true}
use mathlib.Core.List.{[], ◌∷◌, ◌++◌}
use Rattle.parse_tree.specs.Plain.Tree.{Text, Leaf, Around, Over, Sym, Syms, ambiguous, bare, quoted, regex, nonterminal, lookahead, lookbehind, error, macro, group, leaf, around, over, nil, cons}
use Rattle.parse_tree.specs.Plain.Display.{shown_leaf, shown_before, shown_behind, opening, separator, closing, shown, shown_all, shown_more, print}
use Rattle.parse_tree.specs.declared.syntax.Span.{Span}
use Rattle.passes.specs.Outcome.{Tree}
use Rattle.meaning.specs.Phrases.{Phrase, Phrases, pnil, pcons}
use Rattle.meaning.specs.Meaning.{mean_leaf, mean_around, mean_over, mean, means}
use Rattle.meaning.proofs.Predicates.{IdentAround, IdentOver, PureLeaf, Pure, Pures, OkayOver, is_compound}
use Rattle.parse_tree.proofs.DisplayLaws.{print-then}

module _ (G : Tree) where
  -- the name n of an item is the printed form of a symbol that says m
  pub record Name (n : Text) (m : Phrase) : Type 0 where
    pub from : Sym
    pub pure : Pure G from
    pub prints : n ≡ print from
    pub says : mean G [] from ≡ m
    pub no_token : is_compound m ≡ true

  -- a symbol with the same printed form says m
  pub record Orig (x : Sym) (m : Phrase) : Type 0 where
    pub from : Sym
    pub pure : Pure G from
    pub prints : (r : Text) → shown x r ≡ shown from r
    pub says : mean G [] from ≡ m

  pub record Origs (xs : Syms) (ms : Phrases) : Type 0 where
    pub from : Syms
    pub pure : Pures G from
    pub prints : (sep r : Text) → shown_all xs sep r ≡ shown_all from sep r
    pub prints_more : (sep r : Text) → shown_more xs sep r ≡ shown_more from sep r
    pub says : means G [] from ≡ ms

  over_ident : (o : Over) (xs : Syms) → OkayOver G [] o xs → IdentOver o
  over_ident (macro n) xs (d, i, e, ne, ar, id) = id
  over_ident group xs k = tt

  -- Known are the names that items bear
  module _ (Known : Text → Type 0) where
    abbrev pub OwnLeaf : Leaf → Phrase → Type 0
    OwnLeaf l m = PureLeaf G l × (m ≡ mean_leaf G [] l)

    -- only a nonterminal can be new
    abbrev pub SrcLeaf : Leaf → Phrase → Type 0
    SrcLeaf (ambiguous n) m = ⊥
    SrcLeaf (bare n) m = OwnLeaf (bare n) m
    SrcLeaf (quoted t) m = OwnLeaf (quoted t) m
    SrcLeaf (regex t) m = OwnLeaf (regex t) m
    SrcLeaf (nonterminal n) m = Name n m × Known n
    SrcLeaf lookahead m = OwnLeaf lookahead m
    SrcLeaf lookbehind m = OwnLeaf lookbehind m
    SrcLeaf error m = OwnLeaf error m

    mutual
      -- the symbol x of a stage, where it may hold names of new items, says m
      pub data Src : Sym → Phrase → Type 0 where
        s_leaf : {s : Span} {l : Leaf} {m : Phrase} → SrcLeaf l m → Src (leaf s l) m
        s_around : {s : Span} {a : Around} {x : Sym} {k m : Phrase} → IdentAround a → Src x k → m ≡ mean_around G [] a k → Src (around s a x) m
        s_over : {s : Span} {o : Over} {xs : Syms} {ks : Phrases} {m : Phrase} → OkayOver G [] o xs → Srcs xs ks → m ≡ mean_over G [] o ks → Src (over s o xs) m

      pub data Srcs : Syms → Phrases → Type 0 where
        s_nil : Srcs nil pnil
        s_cons : {x : Sym} {xs : Syms} {m : Phrase} {ms : Phrases} → Src x m → Srcs xs ms → Srcs (cons x xs) (pcons m ms)

    orig_own : (s : Span) (l : Leaf) {m : Phrase} → OwnLeaf l m → Orig (leaf s l) m
    unfolding mean
    orig_own s l (p, e) = record { from = leaf s l; pure = p; prints = λ r. refl; says = sym e }

    orig_leaf : (s : Span) (l : Leaf) {m : Phrase} → SrcLeaf l m → Orig (leaf s l) m
    unfolding shown shown_leaf
    orig_leaf s (ambiguous n) h = absurd h
    orig_leaf s (bare n) h = orig_own s (bare n) h
    orig_leaf s (quoted t) h = orig_own s (quoted t) h
    orig_leaf s (regex t) h = orig_own s (regex t) h
    orig_leaf s (nonterminal n) (k, h) =
        record { from = k.from; pure = k.pure; prints = λ r. ap (◌++ r) k.prints ∙ print-then k.from r; says = k.says }
    orig_leaf s lookahead h = orig_own s lookahead h
    orig_leaf s lookbehind h = orig_own s lookbehind h
    orig_leaf s error h = orig_own s error h

    mutual
      unfolding shown mean

      pub orig : {x : Sym} {m : Phrase} → Src x m → Orig x m
      orig (s_leaf {s = s} {l = l} h) = orig_leaf s l h
      orig (s_around {s = s} {a = a} i h e) =
          let o = orig h in
          record { from = around s a o.from; pure = (i, o.pure); prints = λ r. ap (shown_before a) (o.prints (shown_behind a r)); says = ap (mean_around G [] a) o.says ∙ sym e }
      orig (s_over {s = s} {o = o} {xs = xs} k hs e) =
          let os = origs hs in
          record { from = over s o os.from; pure = (over_ident o xs k, os.pure); prints = λ r. ap (opening o) (os.prints (separator o) (closing o ∷ r)); says = ap (mean_over G [] o) os.says ∙ sym e }

      pub origs : {xs : Syms} {ms : Phrases} → Srcs xs ms → Origs xs ms
      origs s_nil = record { from = nil; pure = tt; prints = λ sep r. refl; prints_more = λ sep r. refl; says = refl }
      origs (s_cons {xs = xs} h hs) =
          let o = orig h in
          let os = origs hs in
          record {
            from = cons o.from os.from;
            pure = (o.pure, os.pure);
            prints = λ sep r. o.prints (shown_more xs sep r) ∙ ap (shown o.from) (os.prints_more sep r);
            prints_more = λ sep r. ap (sep ++◌) (o.prints (shown_more xs sep r) ∙ ap (shown o.from) (os.prints_more sep r));
            says = ap₂ pcons o.says os.says;
          }

    -- so its printed form is the name of an item that says m
    pub name_of : {x : Sym} {m : Phrase} → Src x m → is_compound m ≡ true → Name (print x) m
    unfolding print
    name_of h e = let o = orig h in record { from = o.from; pure = o.pure; prints = o.prints []; says = o.says; no_token = e }
