-- Laws of the functions that expand repeats. Assumes nothing.
use mathlib.Core.Path.{◌≡◌, refl, sym, ap, ◌∙◌, subst}
use mathlib.Core.Bool.{Bool, true, ◌&&◌}
use mathlib.Core.List.{List, [], ◌∷◌, ◌++◌, append-nil, append_assoc}
use Prim.Native.Nat.{ℕ, ◌+◌, ◌-◌, ◌%◌, ◌≤◌}
use native.Mathlib.Omega.{arith}
use mir.Syntax.{w64}
use mir.Val as Bound
use borrow.Author.Rules.{rules}
use lib.ListN.{length}
use Rattle.octets.specs.Plain.Numbers.{le}
use Rattle.octets.proofs.NumbersLaws.{low_bytes}
use Rattle.parse_tree.specs.Plain.Tree.{Text, Op, Sym, question, repeat, around, nil, cons, count, user, item}
use Rattle.parse_tree.specs.Plain.Texts.{number, with_new}
use Rattle.parse_tree.specs.Plain.References.{action_texts, syms_texts}
use Rattle.parse_tree.specs.Plain.Display.{print}
use Rattle.parse_tree.specs.Working.Nodes.{span_bytes, node_bytes}
use Rattle.parse_tree.specs.Working.Encode.{action_text, syms_bytes, item_bytes}
use Rattle.parse_tree.specs.declared.syntax.Span.{Span}
use Rattle.passes.specs.Macros.{expand_repeat_symbol, some_text, none_text}
use Rattle.passes.specs.Sizes.{sym_fits}
use Rattle.precedence.specs.Write.{Puts, alternative_head}
use Rattle.replacing.specs.Trees.{renamed, renamed_all}
use Rattle.expander.specs.declared.Ground.{Ground}
use Rattle.expander.specs.declared.slots.Numbered.{Numbered}
use Rattle.expander.specs.Ground.{Grounded}
use Rattle.expander.specs.Names.{named_in}
use Rattle.appending.specs.declared.Appended.{Appended}
use Rattle.appending.specs.declared.symbols.Copied.{Copied}
use Rattle.appending.specs.Built.{built_text, Gives, SomeBuilt, GivesBuilt}
use Rattle.appending.specs.Pieces.{naming, then_piece, symbols_piece, item_piece, Appending, Appends, SomeAppending}
use Rattle.appending.specs.Symbols.{Referring, SomeReferring, PutsSymbols}
use Rattle.appending.proofs.PiecesLaws.{steady_then, steady_symbols, appends_then, appends_is, appends_gives}
use Rattle.appending.proofs.SymbolsStays.{referring_stays}
use Rattle.macro_expand.specs.declared.begin.Begun.{Begun}
use Rattle.macro_expand.specs.Expand.{head_bytes, head_piece, Popped, SomePopped, IsRepeat, Begins}
use Rattle.macro_expand.specs.Repeat.{ExpandsAs, BeganWith, BeginsWith, by_number, bare_head, PutsBy}
use Rattle.macro_expand.proofs.PoppedLaws.{popped_any, popped_room}
use Rattle.macro_expand.proofs.ItemPieces.{alternative_head_lem, steady_head, appends_told, appends_has, appends_number}
use Rattle.macro_expand.proofs.ItemTrees.{simple_node, two_bytes, two_texts, two_fits}
use Rattle.macro_expand.proofs.RepeatTrees.{text_some, text_nothing, repeat_referring, repeat_fits}

-- ---- a repeat that was taken off the pile
record Inner (s w : List ℕ) (g : Ground) (n lim q : ℕ) (v : Appended) : Type 0 where
  pub places : List ℕ
  pub four : Bool
  pub left : ℕ
  pub end : ℕ
  pub span : Span
  pub op : Op
  pub one : Sym
  pub popped : Popped s w g n lim places four left q end (around span (repeat op) one) v

inner : (s w : List ℕ) (g : Ground) (n lim q : ℕ) (v : Appended) → SomePopped IsRepeat s w g n lim q v → Inner s w g n lim q v
inner s w g n lim q v K =
    let (sp, o, x, z) = K.is in
    record {
      places = K.places;
      four = K.four;
      left = K.left;
      end = K.end;
      span = sp;
      op = o;
      one = x;
      popped = subst (λ (y : Sym). Popped s w g n lim K.places K.four K.left q K.end y v) z K.popped;
    }

-- ---- what is asked first
module _ (s w : List ℕ) (g : Ground) (n lim q : ℕ) (v : Appended) (K : SomePopped IsRepeat s w g n lim q v) where
  room : g.from + q + 9 ≤ g.end
  room = popped_room s w g n lim K.places K.four K.left q K.end K.symbol v K.popped

  pub inside-fits : Bound.Fits w64 (q + 10)
  inside-fits = record { fits = omega (arith, room, K.popped.going.behind, K.popped.going.ground.short) }

  pub place-fits : Bound.Fits w64 (g.from + (q + 10))
  place-fits = record { fits = omega (arith, room, K.popped.going.behind, K.popped.going.ground.short) }

-- ---- begin_with
module _ (s w : List ℕ) (g : Ground) (n lim q : ℕ) (v : Appended) (flags i symbols : ℕ) (x : Begun) (w1 : List ℕ) (B : Begins s w g n lim q v flags 2 i symbols x w1) where
  -- the symbol inside still stands there
  pub begun_there : SomePopped IsRepeat s w g n lim q v → SomeReferring s w1 g n lim (q + 10) 1 x.out
  unfolding count Begins
  begun_there K =
      let I = inner s w g n lim q v K in
      let b = (B I.places I.four I.left I.end (around I.span (repeat I.op) I.one) I.popped).1 in
      record {
        places = I.places;
        four = I.four;
        left = I.left - 1;
        end = I.end;
        symbols = cons I.one nil;
        going = b.going;
        many = refl;
        referring =
            referring_stays s g n lim I.places w v I.popped.going _ x.out w1 b I.four (I.left - 1) (q + 10) I.end (cons I.one nil)
            (repeat_referring s w g n lim I.places I.four I.left q I.end I.span I.op I.one v I.popped);
      }

module _ (s w : List ℕ) (g : Ground) (n lim q : ℕ) (v : Appended) (flags i : ℕ) (x : Begun) (w1 : List ℕ) (B : Begins s w g n lim q v flags 2 i 1 x w1) where
  -- of a repeat
  module _ (ps : List ℕ) (four : Bool) (left e : ℕ) (sp : Span) (o : Op) (y : Sym) (R : Popped s w g n lim ps four left q e (around sp (repeat o) y) v) where
    abbrev key : Text
    key = print (around sp (repeat o) y)

    begun : ((le 8 x.span ≡ span_bytes sp) × (x.name.number ≡ number (named_in s w1 g x.out.count) key)) × Appends s g n lim ps w v (head_piece g.width.bytes sp key flags 2 (built_text i) 1) x.out w1
    unfolding Begins
    begun = B ps four left e (around sp (repeat o) y) R

    there : Referring s w1 g ps four (left - 1) (q + 10) e (cons y nil)
    there =
        referring_stays s g n lim ps w v R.going (head_piece g.width.bytes sp key flags 2 (built_text i) 1) x.out w1 begun.1 four (left - 1) (q + 10) e (cons y nil)
        (repeat_referring s w g n lim ps four left q e sp o y v R)

    module _ (c : Copied) (w2 : List ℕ) (P : PutsSymbols s w1 g n lim (q + 10) 1 x.out c w2) where
      copied : Appends s g n lim ps w1 x.out (symbols_piece g.width.bytes (cons y nil)) c.out w2
      unfolding PutsSymbols count
      copied = (P ps four (left - 1) e (cons y nil) refl begun.1.going there).1

      still : Referring s w2 g ps four (left - 1) (q + 10) e (cons y nil)
      still = referring_stays s g n lim ps w1 x.out begun.1.going (symbols_piece g.width.bytes (cons y nil)) c.out w2 copied four (left - 1) (q + 10) e (cons y nil) there

      with_symbol : BeganWith s w g n lim q v ps flags i sp key y (record { span = x.span; name = x.name; out = c.out }) w2
      with_symbol = record {
        span = begun.0.0;
        name = begun.0.1 ∙ sym (appends_number s g n lim ps w1 x.out (symbols_piece g.width.bytes (cons y nil)) c.out w2 copied key (appends_has s g n lim ps w v _ x.out w1 begun.1).0);
        appended =
            appends_then s g n lim ps w v (head_piece g.width.bytes sp key flags 2 (built_text i) 1) x.out w1 (symbols_piece g.width.bytes (cons y nil)) c.out w2 (steady_head g.width.bytes sp key flags 2 (built_text i) 1) R.going
            begun.1 copied;
      }

  module _ (K : SomePopped IsRepeat s w g n lim q v) where
    I : Inner s w g n lim q v
    I = inner s w g n lim q v K

    pub with_done : (c : Copied) (w2 : List ℕ) → PutsSymbols s w1 g n lim (q + 10) 1 x.out c w2 → BeginsWith s w g n lim q v flags i (record { span = x.span; name = x.name; out = c.out }) w2
    unfolding count
    with_done c w2 P = record {
      some = record {
        places = I.places;
        four = I.four;
        left = I.left - 1;
        end = I.end;
        symbols = cons I.one nil;
        going = (copied I.places I.four I.left I.end I.span I.op I.one I.popped c w2 P).going;
        many = refl;
        referring = still I.places I.four I.left I.end I.span I.op I.one I.popped c w2 P;
      };
      each = λ ps four left e sp o y R. with_symbol ps four left e sp o y R c w2 P;
    }

pub ruleset beginning_with = (rules, inside-fits, popped_any, begun_there, with_done)

-- ---- bytes by the number of a built-in text
module _ (s w : List ℕ) (g : Ground) (n lim : ℕ) (v : Appended) (i : ℕ) (t : Numbered) (w1 : List ℕ) (B : GivesBuilt s w g n v.count i t w1) where
  module _ (ps : List ℕ) (A : Appending s g n lim ps w v) where
    given : Gives s w g n v.count ps (built_text i) t w1
    unfolding GivesBuilt
    given = B ps A.names A.built

    named : Appends s g n lim ps w v (naming (built_text i)) (record { to = v.to; count = t.count; deep = v.deep }) w1
    named = appends_gives s g n lim ps w v (built_text i) t w1 A given

    by_number_lem : (f : ℕ → List ℕ) (r : ℕ) (w2 : List ℕ) → Puts w1 lim v.to (f t.number) r w2 → Appends s g n lim ps w v (by_number (built_text i) f) (record { to = r; count = t.count; deep = v.deep }) w2
    by_number_lem f r w2 P =
        appends_told s g n lim ps w v (built_text i ∷ []) (λ ts. f (number ts (built_text i))) (record { to = v.to; count = t.count; deep = v.deep }) w1 r w2 A named
        (subst (λ (k : ℕ). Puts w1 lim v.to (f k) r w2) given.is P)

  -- theorem: f is the same for the lowest four bytes
  pub put_by : (f : ℕ → List ℕ) → ((k : ℕ) → f (k % 4294967296) ≡ f k) → (m r : ℕ) (w2 : List ℕ) → m ≡ t.number % 4294967296 → Puts w1 lim v.to (f m) r w2
      → PutsBy s w g n lim v (built_text i) f (record { to = r; count = t.count; deep = v.deep }) w2
  unfolding PutsBy
  put_by f h m r w2 d P ps A = by_number_lem ps A f r w2 (subst (λ (xs : List ℕ). Puts w1 lim v.to xs r w2) (ap f d ∙ h t.number) P)

  pub by_inside : SomeAppending s w g n lim v → lim ≤ length w1
  by_inside K = (named K.places K.going).going.inside

-- what `built` needs
module _ (s w : List ℕ) (g : Ground) (n lim : ℕ) (v : Appended) (K : SomeAppending s w g n lim v) where
  pub by_ground : Grounded s w g
  by_ground = K.going.ground

  pub by_built : SomeBuilt s w g n v.count
  by_built = record { places = K.places; names = K.going.names; built = K.going.built }

  -- ---- put_bare
  pub bare_done : (i : ℕ) (t : Numbered) (w1 : List ℕ) → GivesBuilt s w g n v.count i t w1 → (span m r : ℕ) (w2 : List ℕ) → Puts w1 lim v.to (alternative_head g.width.bytes span 1 m 0) r w2 → m ≡ t.number % 4294967296
      → PutsBy s w g n lim v (built_text i) (bare_head g.width.bytes span) (record { to = r; count = t.count; deep = v.deep }) w2
  unfolding bare_head alternative_head
  bare_done i t w1 B span m r w2 P d = put_by s w g n lim v i t w1 B (bare_head g.width.bytes span) (λ k. rw (low_bytes g.width.bytes k K.going.ground.narrow K.going.ground.wide) refl) m r w2 d P

pub ruleset putting_bare = (rules, by_ground, by_built, by_inside, bare_done)

-- ---- expand_question
module _ (wd : ℕ) (sp : Span) (key : Text) (x : Sym) where
  question_bytes : (ts : List Text) (span : ℕ) → le 8 span ≡ span_bytes sp
      → item_bytes wd ts (item (expand_repeat_symbol sp key question (renamed x)))
      ≡ (head_bytes wd sp (number ts key) 1 2 1 (number ts (built_text 5)) 1 ++ syms_bytes wd ts (renamed_all (cons x nil))) ++ bare_head wd span (number ts (built_text 6))
  unfolding action_text syms_bytes renamed_all count bare_head
  question_bytes ts span z =
      let H = head_bytes wd sp (number ts key) 1 2 1 (number ts some_text) 1 in
      let X = syms_bytes wd ts (cons (renamed x) nil) in
      let N = node_bytes wd (simple_node sp 1 (number ts none_text) 0) in
      two_bytes wd ts sp key true (user some_text) (cons (renamed x) nil) (user none_text) nil
      ∙ ap (λ (r : List ℕ). H ++ (X ++ r)) (append-nil N ∙ sym (alternative_head_lem wd span sp z (number ts none_text) (number ts none_text) 1 0 refl))
      ∙ sym (append_assoc H X (alternative_head wd span 1 (number ts none_text) 0))
      ∙ ap (λ (t : Text). (head_bytes wd sp (number ts key) 1 2 1 (number ts t) 1 ++ X) ++ alternative_head wd span 1 (number ts none_text) 0) (sym text_some)
      ∙ ap (λ (t : Text). (head_bytes wd sp (number ts key) 1 2 1 (number ts (built_text 5)) 1 ++ X) ++ alternative_head wd span 1 (number ts t) 0) (sym text_nothing)

  question_texts : (item_piece wd (item (expand_repeat_symbol sp key question (renamed x)))).texts ≡ ((key ∷ built_text 5 ∷ []) ++ syms_texts (renamed_all (cons x nil))) ++ (built_text 6 ∷ [])
  unfolding action_texts syms_texts renamed_all
  question_texts =
      two_texts sp key true (user some_text) (cons (renamed x) nil) (user none_text) nil
      ∙ ap (λ (t : Text). ((key ∷ t ∷ []) ++ syms_texts (cons (renamed x) nil)) ++ (none_text ∷ [])) (sym text_some)
      ∙ ap (λ (t : Text). ((key ∷ built_text 5 ∷ []) ++ syms_texts (cons (renamed x) nil)) ++ (t ∷ [])) (sym text_nothing)

  question_fits : sym_fits (renamed x) 64 ≡ true → (item_piece wd (item (expand_repeat_symbol sp key question (renamed x)))).fits ≡ true
  unfolding count
  question_fits h = two_fits sp key true (user some_text) (cons (renamed x) nil) (user none_text) nil refl refl ∙ ap (λ (b : Bool). (b && true) && true) h

pub with_appending : (s w : List ℕ) (g : Ground) (n lim q : ℕ) (v : Appended) (flags i : ℕ) (x : Begun) (w1 : List ℕ) → BeginsWith s w g n lim q v flags i x w1 → SomeAppending s w1 g n lim x.out
with_appending s w g n lim q v flags i x w1 B = record { places = B.some.places; going = B.some.going }

module _ (s w : List ℕ) (g : Ground) (n lim q : ℕ) (v : Appended) (x : Begun) (w1 : List ℕ) (B : BeginsWith s w g n lim q v 1 5 x w1) where
  pub question_done : (r : Appended) (w2 : List ℕ) → PutsBy s w1 g n lim x.out (built_text 6) (bare_head g.width.bytes x.span) r w2 → ExpandsAs s w g n lim q v question r w2
  unfolding ExpandsAs PutsBy
  question_done r w2 P ps four left e sp o y R =
      let key = print (around sp (repeat o) y) in
      let h = (B.each ps four left e sp o y R).appended in
      let k = (B.each ps four left e sp o y R).span in
      let H = head_piece g.width.bytes sp (print (around sp (repeat o) y)) 1 2 (built_text 5) 1 in
      let X = symbols_piece g.width.bytes (cons y nil) in
      let N = by_number (built_text 6) (bare_head g.width.bytes x.span) in
      let st = steady_then H X (steady_head g.width.bytes sp (print (around sp (repeat o) y)) 1 2 (built_text 5) 1) (steady_symbols g.width.bytes (cons y nil)) in
      let a = appends_then s g n lim ps w v (then_piece H X) x.out w1 N r w2 st R.going h (P ps h.going) in
      appends_is s g n lim ps w v (then_piece (then_piece H X) N) r w2 a (item_piece g.width.bytes (item (expand_repeat_symbol sp key question (renamed y))))
      (ap (with_new (named_in s w g v.count)) (question_texts g.width.bytes sp key y)) (question_bytes g.width.bytes sp key y (named_in s w2 g r.count) x.span k)
      (question_fits g.width.bytes sp key y (repeat_fits s w g n lim ps four left q e sp o y v R 64 (omega arith)))

pub ruleset questioning = (rules, with_appending, question_done)
