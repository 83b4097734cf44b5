-- Laws of the functions that expand `X+`. Assumes nothing.
use mathlib.Core.Path.{◌≡◌, refl, sym, ap, ◌∙◌, subst}
use mathlib.Core.Bool.{true}
use mathlib.Core.List.{List, [], ◌∷◌, ◌++◌}
use Prim.Native.Nat.{ℕ, ◌+◌, ◌-◌, ◌%◌, ◌≤◌}
use native.Mathlib.Omega.{arith}
use borrow.Author.Rules.{rules}
use lib.ListN.{length}
use Rattle.octets.specs.Plain.Numbers.{le}
use Rattle.octets.proofs.NumbersLaws.{low_bytes}
use Rattle.parse_tree.specs.Plain.Tree.{Text, plus, repeat, around, nil, cons, count, item}
use Rattle.parse_tree.specs.Plain.Texts.{has, number, with_new}
use Rattle.parse_tree.specs.Plain.Display.{print}
use Rattle.passes.specs.Macros.{expand_repeat_symbol}
use Rattle.precedence.specs.Write.{Puts, alternative_head}
use Rattle.precedence.proofs.WriteLaws.{puts_append}
use Rattle.replacing.specs.Trees.{renamed}
use Rattle.expander.specs.declared.Ground.{Ground}
use Rattle.expander.specs.declared.slots.Numbered.{Numbered}
use Rattle.expander.specs.Ground.{Grounded}
use Rattle.expander.specs.Names.{named_in}
use Rattle.appending.specs.declared.Appended.{Appended}
use Rattle.appending.specs.declared.symbols.Copied.{Copied}
use Rattle.appending.specs.Built.{built_text, Gives, SomeBuilt, GivesBuilt}
use Rattle.appending.specs.Commands.{name_head}
use Rattle.appending.specs.Pieces.{all_named, naming, plainly, then_piece, symbols_piece, item_piece, Appending, Appends, SomeAppending}
use Rattle.appending.specs.Symbols.{SomeReferring, PutsSymbols}
use Rattle.appending.proofs.PiecesLaws.{steady_naming, steady_then, steady_symbols, appends_then, appends_is, appends_puts, appends_gives}
use Rattle.appending.proofs.SymbolsStays.{referring_stays, some_stays}
use Rattle.expander.proofs.GroundLaws.{grounded_around}
use Rattle.macro_expand.specs.declared.begin.Begun.{Begun}
use Rattle.macro_expand.specs.declared.plus.Pushing.{Pushing}
use Rattle.macro_expand.specs.Expand.{head_piece}
use Rattle.macro_expand.specs.Repeat.{ExpandsAs, BeginsWith, GoesOn, NamedPush, NamesPush, push_head, push_piece, PutsSecond, PutsPush}
use Rattle.macro_expand.proofs.ItemPieces.{steady_head, appends_told, appends_has, appends_number}
use Rattle.macro_expand.proofs.RepeatTrees.{repeat_referring, repeat_fits}
use Rattle.macro_expand.proofs.RepeatCode.{inside-fits}
use Rattle.macro_expand.proofs.PushTrees.{new_later, steady_push, push-same, plus_bytes, plus_texts, plus_fits}

-- ---- next_text
pub text_goes_on : (s w : List ℕ) (g : Ground) (n c i : ℕ) (r : Numbered) (w' : List ℕ) → GivesBuilt s w g n c i r w' → Grounded s w g → SomeBuilt s w g n c → GoesOn s w g n c i r w'
unfolding GivesBuilt
text_goes_on s w g n c i r w' B G K =
    let h = B K.places K.names K.built in
    record { ground = grounded_around s w w' g G h.around; some = record { places = K.places; names = h.names; built = h.built }; long = h.around.long; gives = B }

pub ruleset Going-on = (rules, text_goes_on)

-- ---- push_texts
module _ (s w : List ℕ) (g : Ground) (n c : ℕ) (a : Numbered) (w1 : List ℕ) (A : GoesOn s w g n c 3 a w1) (b : Numbered) (w2 : List ℕ) (B : GoesOn s w1 g n a.count 1 b w2) (d : Numbered) (w3 : List ℕ)
    (D : GoesOn s w2 g n b.count 4 d w3) where
  -- of all that is appended
  module _ (lim : ℕ) (ps : List ℕ) (v : Appended) (z : v.count ≡ c) (h : Appending s g n lim ps w v) where
    abbrev v1 : Appended
    v1 = record { to = v.to; count = a.count; deep = v.deep }

    abbrev v2 : Appended
    v2 = record { to = v.to; count = b.count; deep = v.deep }

    abbrev v3 : Appended
    v3 = record { to = v.to; count = d.count; deep = v.deep }

    gives_1 : Gives s w g n v.count ps (built_text 3) a w1
    unfolding GivesBuilt
    gives_1 = subst (λ (k : ℕ). GivesBuilt s w g n k 3 a w1) (sym z) A.gives ps h.names h.built

    named-1 : Appends s g n lim ps w v (naming (built_text 3)) v1 w1
    named-1 = appends_gives s g n lim ps w v (built_text 3) a w1 h gives_1

    gives_2 : Gives s w1 g n a.count ps (built_text 1) b w2
    unfolding GivesBuilt
    gives_2 = B.gives ps named-1.going.names named-1.going.built

    named-2 : Appends s g n lim ps w1 v1 (naming (built_text 1)) v2 w2
    named-2 = appends_gives s g n lim ps w1 v1 (built_text 1) b w2 named-1.going gives_2

    gives_3 : Gives s w2 g n b.count ps (built_text 4) d w3
    unfolding GivesBuilt
    gives_3 = D.gives ps named-2.going.names named-2.going.built

    named-3 : Appends s g n lim ps w2 v2 (naming (built_text 4)) v3 w3
    named-3 = appends_gives s g n lim ps w2 v2 (built_text 4) d w3 named-2.going gives_3

    both : Appends s g n lim ps w v (all_named (built_text 3 ∷ built_text 1 ∷ [])) v2 w2
    both = appends_then s g n lim ps w v (naming (built_text 3)) v1 w1 (naming (built_text 1)) v2 w2 (steady_naming (built_text 3)) h named-1 named-2

    all : Appends s g n lim ps w v (all_named (built_text 3 ∷ built_text 1 ∷ built_text 4 ∷ [])) v3 w3
    all = appends_then s g n lim ps w v (all_named (built_text 3 ∷ built_text 1 ∷ [])) v2 w2 (naming (built_text 4)) v3 w3 (record { same = λ ts us e. refl }) h both named-3

    push-number : a.number ≡ number (named_in s w3 g d.count) (built_text 3)
    push-number =
        gives_1.is
        ∙ sym (appends_number s g n lim ps w1 v1 (naming (built_text 1)) v2 w2 named-2 (built_text 3) (appends_has s g n lim ps w v (naming (built_text 3)) v1 w1 named-1).0)
        ∙ sym (appends_number s g n lim ps w2 v2 (naming (built_text 4)) v3 w3 named-3 (built_text 3) (appends_has s g n lim ps w v (all_named (built_text 3 ∷ built_text 1 ∷ [])) v2 w2 both).0)

    v_number : b.number ≡ number (named_in s w3 g d.count) (built_text 1)
    v_number =
        gives_2.is ∙ sym (appends_number s g n lim ps w2 v2 (naming (built_text 4)) v3 w3 named-3 (built_text 1) (appends_has s g n lim ps w1 v1 (naming (built_text 1)) v2 w2 named-2).0)

    low : (m k i : ℕ) → m ≡ k % 4294967296 → k ≡ i → le g.width.bytes m ≡ le g.width.bytes i
    low m k i e f = ap (le g.width.bytes) e ∙ low_bytes g.width.bytes k D.ground.narrow D.ground.wide ∙ ap (le g.width.bytes) f

    push-named : (k1 k2 k3 : ℕ) → k1 ≡ a.number % 4294967296 → k2 ≡ b.number % 4294967296 → k3 ≡ d.number % 4294967296
        → NamedPush s w g n lim ps v (record { push = k1; v = k2; e = k3; count = d.count }) w3
    push-named k1 k2 k3 e1 e2 e3 = record {
      push-is = low k1 a.number _ e1 push-number;
      v_is = low k2 b.number _ e2 v_number;
      e_is = low k3 d.number _ e3 gives_3.is;
      appended = all;
    }

  pub push-texts_done : (k1 k2 k3 : ℕ) → k1 ≡ a.number % 4294967296 → k2 ≡ b.number % 4294967296 → k3 ≡ d.number % 4294967296
      → NamesPush s w g n c (record { push = k1; v = k2; e = k3; count = d.count }) w3
  push-texts_done k1 k2 k3 e1 e2 e3 = record {
    long = D.long ∙ B.long ∙ A.long;
    ground = D.ground;
    each = λ lim ps v z h. push-named lim ps v z h k1 k2 k3 e1 e2 e3;
  }

pub ruleset push-naming = (rules, push-texts_done)

-- ---- put_push
pub push-put : (w w1 w2 w3 w4 : List ℕ) (lim to wd span push v key e a b c r : ℕ) → Puts w lim to (alternative_head wd span 1 push 2) a w1 → Puts w1 lim a (name_head wd span v) b w2
    → Puts w2 lim b (36 ∷ (le 8 span ++ le wd key)) c w3 → Puts w3 lim c (name_head wd span e) r w4 → Puts w lim to (push_head wd span push v key e) r w4
unfolding push_head
push-put w w1 w2 w3 w4 lim to wd span push v key e a b c r P Q S T =
    puts_append w w1 lim to (alternative_head wd span 1 push 2) a P (name_head wd span v ++ ((36 ∷ (le 8 span ++ le wd key)) ++ name_head wd span e)) r w4
    (puts_append w1 w2 lim a (name_head wd span v) b Q ((36 ∷ (le 8 span ++ le wd key)) ++ name_head wd span e) r w4 (puts_append w2 w3 lim b (36 ∷ (le 8 span ++ le wd key)) c S (name_head wd span e) r w4 T))

pub ruleset push-putting = (rules, push-put)

-- ---- put_second
module _ (s w : List ℕ) (g : Ground) (n lim : ℕ) (v : Appended) (K : SomeAppending s w g n lim v) where
  pub second_ground : Grounded s w g
  second_ground = K.going.ground

  pub second_built : SomeBuilt s w g n v.count
  second_built = record { places = K.places; names = K.going.names; built = K.going.built }

  module _ (t : Pushing) (w1 : List ℕ) (N : NamesPush s w g n v.count t w1) where
    pub second_inside : lim ≤ length w1
    second_inside = omega (arith, N.long, K.going.inside)

    module _ (span name m r : ℕ) (w2 : List ℕ) (P : Puts w1 lim v.to (push_head g.width.bytes span t.push t.v m t.e) r w2) (d : m ≡ name % 4294967296) where
      abbrev u1 : Appended
      u1 = record { to = v.to; count = t.count; deep = v.deep }

      abbrev u2 : Appended
      u2 = record { to = r; count = t.count; deep = v.deep }

      -- of an item
      module _ (ps : List ℕ) (key : Text) (h : Appending s g n lim ps w v) (i : has key (named_in s w g v.count) ≡ true) (j : name ≡ number (named_in s w g v.count) key) where
        texts : NamedPush s w g n lim ps v t w1
        texts = N.each lim ps v refl h

        with_key : Appends s g n lim ps w v (all_named (built_text 3 ∷ built_text 1 ∷ key ∷ built_text 4 ∷ [])) u1 w1
        with_key =
            appends_is s g n lim ps w v (all_named (built_text 3 ∷ built_text 1 ∷ built_text 4 ∷ [])) u1 w1 texts.appended (all_named (built_text 3 ∷ built_text 1 ∷ key ∷ built_text 4 ∷ []))
            (new_later (named_in s w g v.count) (built_text 3) (built_text 1) key (built_text 4) i) refl refl

        key_is : le g.width.bytes m ≡ le g.width.bytes (number (named_in s w1 g t.count) key)
        key_is =
            ap (le g.width.bytes) d ∙ low_bytes g.width.bytes name h.ground.narrow h.ground.wide
            ∙ ap (le g.width.bytes) (j ∙ sym (appends_number s g n lim ps w v (all_named (built_text 3 ∷ built_text 1 ∷ key ∷ built_text 4 ∷ [])) u1 w1 with_key key i))

        pushed-all : Appends s g n lim ps w v (push_piece g.width.bytes span key) u2 w2
        pushed-all =
            appends_told s g n lim ps w v (built_text 3 ∷ built_text 1 ∷ key ∷ built_text 4 ∷ []) (push_piece g.width.bytes span key).bytes u1 w1 r w2 h with_key
            (subst (λ (xs : List ℕ). Puts w1 lim v.to xs r w2) (push-same g.width.bytes span t.push t.v m t.e _ _ _ _ texts.push-is texts.v_is key_is texts.e_is) P)

      -- of any
      plainly-put : (ps : List ℕ) → Appending s g n lim ps w v
          → Appends s g n lim ps w v (then_piece (all_named (built_text 3 ∷ built_text 1 ∷ built_text 4 ∷ [])) (plainly (push_head g.width.bytes span t.push t.v m t.e))) u2 w2
      plainly-put ps h =
          let a = (N.each lim ps v refl h).appended in
          appends_then s g n lim ps w v (all_named (built_text 3 ∷ built_text 1 ∷ built_text 4 ∷ [])) u1 w1 (plainly (push_head g.width.bytes span t.push t.v m t.e)) u2 w2 (record { same = λ ts us e. refl }) h a
          (appends_puts s g n lim ps w1 u1 (push_head g.width.bytes span t.push t.v m t.e) r w2 a.going P)

      pub second_done : PutsSecond s w g n lim span name v u2 w2
      second_done = record { stays = λ ps h. (_, plainly-put ps h); each = λ ps key h i j. pushed-all ps key h i j }

pub ruleset push-second = (rules, second_ground, second_built, second_inside, second_done)

-- ---- push_rest
pub rest_appending : (s w : List ℕ) (g : Ground) (n lim p k : ℕ) (v : Appended) → SomeReferring s w g n lim p k v → SomeAppending s w g n lim v
rest_appending s w g n lim p k v K = record { places = K.places; going = K.going }

module _ (s w : List ℕ) (g : Ground) (n lim p span name : ℕ) (v r : Appended) (w1 : List ℕ) (S : PutsSecond s w g n lim span name v r w1) where
  pub rest_there : SomeReferring s w g n lim p 1 v → SomeReferring s w1 g n lim p 1 r
  rest_there K = let (x, a) = S.stays K.places K.going in some_stays s w g n lim p 1 v K x r w1 a

  pub rest_done : (c : Copied) (w2 : List ℕ) → PutsSymbols s w1 g n lim p 1 r c w2 → PutsPush s w g n lim p span name v c.out w2
  unfolding PutsPush PutsSymbols count
  rest_done c w2 Q ps four left e x key h R i j =
      let a = S.each ps key h i j in
      appends_then s g n lim ps w v (push_piece g.width.bytes span key) r w1 (symbols_piece g.width.bytes (cons x nil)) c.out w2 (steady_push g.width.bytes span key) h a
      (Q ps four left e (cons x nil) refl a.going (referring_stays s g n lim ps w v h (push_piece g.width.bytes span key) r w1 a four left p e (cons x nil) R)).1

pub ruleset push-resting = (rules, rest_appending, rest_there, rest_done)

-- ---- expand_plus
module _ (s w : List ℕ) (g : Ground) (n lim q : ℕ) (v : Appended) (x : Begun) (w1 : List ℕ) (B : BeginsWith s w g n lim q v 0 2 x w1) where
  pub plus_there : SomeReferring s w1 g n lim (q + 10) 1 x.out
  plus_there = B.some

  pub plus_done : (r : Appended) (w2 : List ℕ) → PutsPush s w1 g n lim (q + 10) x.span x.name.number x.out r w2 → ExpandsAs s w g n lim q v plus r w2
  unfolding ExpandsAs PutsPush
  plus_done r w2 P ps four left e sp o y R =
      let key = print (around sp (repeat o) y) in
      let c = B.each ps four left e sp o y R in
      let h = c.appended in
      let H = head_piece g.width.bytes sp (print (around sp (repeat o) y)) 0 2 (built_text 2) 1 in
      let X = symbols_piece g.width.bytes (cons y nil) in
      let N = then_piece (push_piece g.width.bytes x.span (print (around sp (repeat o) y))) (symbols_piece g.width.bytes (cons y nil)) in
      let st = steady_then H X (steady_head g.width.bytes sp (print (around sp (repeat o) y)) 0 2 (built_text 2) 1) (steady_symbols g.width.bytes (cons y nil)) in
      let there = referring_stays s g n lim ps w v R.going (then_piece H X) x.out w1 h four (left - 1) (q + 10) e (cons y nil) (repeat_referring s w g n lim ps four left q e sp o y v R) in
      let f = P ps four (left - 1) e y key h.going there (appends_has s g n lim ps w v (then_piece H X) x.out w1 h).0 c.name in
      let a = appends_then s g n lim ps w v (then_piece H X) x.out w1 N r w2 st R.going h f in
      appends_is s g n lim ps w v (then_piece (then_piece H X) N) r w2 a (item_piece g.width.bytes (item (expand_repeat_symbol sp key plus (renamed y))))
      (ap (with_new (named_in s w g v.count)) (plus_texts g.width.bytes sp key y)) (plus_bytes g.width.bytes sp key y (named_in s w2 g r.count) x.span c.span)
      (plus_fits g.width.bytes sp key y (repeat_fits s w g n lim ps four left q e sp o y v R 64 (omega arith)) (repeat_fits s w g n lim ps four left q e sp o y v R 63 (omega arith)))

pub ruleset plussing = (rules, inside-fits, plus_there, plus_done)
