-- Laws of `put_macro` and `expand_macro_symbol`: the item of a call, or its refusal. Assumes nothing.
use mathlib.Core.Path.{◌≡◌, refl, sym, ap, ◌∙◌, subst}
use mathlib.Core.Bool.{Bool, ◌&&◌}
use mathlib.Core.List.{List, [], ◌∷◌, ◌++◌}
use Prim.Native.Nat.{ℕ, ◌+◌, ◌≤◌, ◌<◌}
use native.Mathlib.Omega.{arith}
use mir.Syntax.{w8}
use mir.Val as Bound
use borrow.Author.Rules.{rules}
use borrow.Author.Tests.{lt-ltb}
use lib.ListN.{length, get_or}
use Rattle.octets.specs.Plain.Numbers.{le_at, le}
use Rattle.octets.proofs.LiesLaws.{lies_split}
use Rattle.parse_tree.specs.Plain.Tree.{Text, Sym, Syms, macro, over, count, Alternative, Nonterminal, item}
use Rattle.parse_tree.specs.Plain.Texts.{number}
use Rattle.parse_tree.specs.Plain.Display.{print}
use Rattle.parse_tree.specs.Plain.References.{item_texts}
use Rattle.parse_tree.specs.Plain.WriteTape.{bytes_of_each, bit}
use Rattle.parse_tree.specs.Working.Nodes.{span_bytes, span_in, node_bytes, symbol_bytes}
use Rattle.parse_tree.specs.Working.Encode.{over_node, alternative_bytes, nonterminal_node, item_bytes, sym_bytes, syms_bytes}
use Rattle.parse_tree.specs.Working.Within.{Each, AlternativeWithin}
use Rattle.parse_tree.specs.Working.Refusals.{refusal_over}
use Rattle.parse_tree.specs.declared.syntax.Span.{Span}
use Rattle.parse_tree.specs.declared.refusal.Refusal.{Refusal}
use Rattle.texts.specs.Table.{texts}
use Rattle.passes.specs.Sizes.{each, alternative_fits}
use Rattle.passes.specs.Outcome.{Outcome, yes, after}
use Rattle.precedence.proofs.WriteMean.{span_there}
use Rattle.replacing.specs.Trees.{renamed_all}
use Rattle.replacing.proofs.Growing.{extends_number}
use Rattle.expander.specs.declared.Ground.{Ground}
use Rattle.expander.specs.Ground.{size_in}
use Rattle.expander.specs.Names.{named_in}
use Rattle.appending.specs.declared.Appended.{Appended}
use Rattle.appending.specs.Commands.{item_head}
use Rattle.appending.specs.Pieces.{then_piece, item_piece, Steady, Appends}
use Rattle.appending.proofs.PiecesLaws.{appends_then, appends_is}
use Rattle.appending.proofs.SymbolsStays.{texts-stay}
use Rattle.std.specs.Prelude.{Result, Ok, Err, MatchResult, IsErrAnd}
use Rattle.macro_expand.specs.declared.arguments.NotLiteral.{NotLiteral}
use Rattle.macro_expand.specs.declared.call.MacroCall.{MacroCall}
use Rattle.macro_expand.specs.Arguments.{ReadableCall, hold_from}
use Rattle.macro_expand.specs.Expand.{ExpandsTo}
use Rattle.macro_expand.specs.Call.{Calls, SomeCall, ExpandsMacro}
use Rattle.macro_expand.specs.PutIn.{Placed, Framed, SomeFramed}
use Rattle.macro_expand.specs.Alternatives.{alternatives_piece, held, SomeAlternatives, PutsHolding}
use Rattle.macro_expand.specs.Macro.{ReadsCall, macro_piece, PutsHead, expanded_by, PutsMacro}
use Rattle.macro_expand.proofs.FrameLaws.{placed_stays, frame_stays, frame_readable}
use Rattle.macro_expand.proofs.HoldMean.{Tells, hold_means, held-few}
use Rattle.macro_expand.proofs.CallCode.{call_head, call_inside, call_flags, call_framed, call_many, call_placed, call_upto}

steady_head : (wd span : ℕ) (key : Text) (flags m : ℕ) → Steady (macro_piece wd span key flags m)
steady_head wd span key flags m = record { same = λ ts us h. ap (λ (k : ℕ). item_head wd span k flags m) (extends_number ts (ts ++ us) key (record { more = us; is = refl }) h.0) }

-- ---- every call that stands there
module _ (s w : List ℕ) (g : Ground) (n lim q d : ℕ) (v : Appended) (ps : List ℕ) (four : Bool) (left e : ℕ) (sp : Span) (t : Text) (xs : Syms) (four' : Bool) (end : ℕ) (D : Nonterminal)
    (C : Calls s w g n lim q d v ps four left e sp t xs four' end D) where
  abbrev ts : List Text
  ts = texts s w g.m

  abbrev wd : ℕ
  wd = g.width.bytes

  abbrev y : Sym
  y = over sp (macro t) xs

  span_of : ((j : ℕ) → Bound.Fits w8 (get_or w j 0)) → (span : ℕ) → span ≡ le_at 8 w (g.from + q + 1) → le 8 span ≡ span_bytes sp
  unfolding sym_bytes over_node node_bytes symbol_bytes
  span_of b span i =
      let node : List ℕ = 37 ∷ (span_bytes sp ++ (le wd (number ts t) ++ (count xs ∷ []))) in
      let z = (lies_split w (g.from + q) (g.from + e) node (syms_bytes wd ts xs) C.popped.stands.lies).0 in
      ap (le 8) i ∙ span_there w (g.from + q) (g.from + q + length node) 37 sp (le wd (number ts t) ++ (count xs ∷ [])) (λ j. (b j).fits) z

  module _ (x : MacroCall) (R : ReadsCall w g q d x) where
    F : Framed s w g n lim x.call v ps D.args xs
    F = call_framed s w g n lim q d v ps four left e sp t xs four' end D C x R

    P : Placed w g v x.from end (bytes_of_each (alternative_bytes wd ts) D.alternatives)
    P = call_placed s w g n lim q d v ps four left e sp t xs four' end D C x R

    many : length D.alternatives ≡ x.many
    many = call_many s w g n lim q d v ps four left e sp t xs four' end D C x R

    upto : end ≤ x.call.end
    upto = call_upto s w g n lim q d v ps four left e sp t xs four' end D C x R

    pub call_readable : ReadableCall g x.call w
    call_readable = frame_readable s w g n lim x.call v ps D.args xs F

    -- what was counted
    call_tells : (u : Result ℕ NotLiteral) → u ≡ hold_from g x.call w x.many x.from 0 → Tells s w g n lim x.call v ps D.args xs F sp D.alternatives 0 u
    call_tells u i =
        subst (Tells s w g n lim x.call v ps D.args xs F sp D.alternatives 0) (sym (i ∙ ap (λ (j : ℕ). hold_from g x.call w j x.from 0) (sym many)))
        (hold_means s w g n lim x.call v ps D.args xs F sp D.alternatives x.from end 0 four' C.defines.within.alternatives P.lies upto)

    -- ---- its command was put
    module _ (span flags m : ℕ) (u : Appended) (w1 : List ℕ) (H : PutsHead s w g n lim q span flags m v u w1) where
      head : Appends s g n lim ps w v (macro_piece wd span (print (over sp (macro t) xs)) flags m) u w1
      unfolding PutsHead
      head = H ps four left e (over sp (macro t) xs) C.popped

      same : texts s w1 g.m ≡ ts
      same = texts-stay s g n lim ps w v C.popped.going (macro_piece wd span (print (over sp (macro t) xs)) flags m) u w1 head

      pub item_framed : Framed s w1 g n lim x.call u ps D.args xs
      item_framed = frame_stays s g n lim x.call w v ps D.args xs F (macro_piece wd span (print (over sp (macro t) xs)) flags m) u w1 head

      pub item_within : Each (AlternativeWithin four' wd (texts s w1 g.m)) D.alternatives
      item_within = subst (λ (us : List Text). Each (AlternativeWithin four' wd us) D.alternatives) (sym same) C.defines.within.alternatives

      pub item_placed : Placed w1 g u x.from end (bytes_of_each (alternative_bytes wd (texts s w1 g.m)) D.alternatives)
      item_placed =
          subst (λ (us : List Text). Placed w1 g u x.from end (bytes_of_each (alternative_bytes wd us) D.alternatives)) (sym same)
          (placed_stays s g n lim ps w v C.popped.going (macro_piece wd span (print (over sp (macro t) xs)) flags m) u w1 head x.from end (bytes_of_each (alternative_bytes wd ts) D.alternatives) P)

      pub item_some : le 8 span ≡ span_bytes sp → SomeAlternatives s w1 g x.call span x.many x.from u
      item_some i = record { span_of = sp; span_is = i; four = four'; end = end; alternatives = D.alternatives; many = many; within = item_within; placed = item_placed; upto = upto }

      pub item_whole : le 8 span ≡ span_bytes sp → flags ≡ get_or w (d + 9 + wd) 0 → m ≡ length (held sp D.args (renamed_all xs) D.alternatives) → m < 65536 → (r : Appended) (w2 : List ℕ)
          → PutsHolding s w1 g n lim x.call span x.many x.from u r w2
          → Appends s g n lim ps w v (item_piece wd (item (expanded_by sp (print (over sp (macro t) xs)) (renamed_all xs) D))) r w2
      unfolding PutsHolding item_texts item_bytes nonterminal_node node_bytes item_head bytes_of_each
      item_whole i j k l r w2 U =
          let as' = held sp D.args (renamed_all xs) D.alternatives in
          let key = print (over sp (macro t) xs) in
          let T = named_in s w2 g r.count in
          let z = U ps D.args xs four' end D.alternatives sp item_framed many item_within item_placed upto i in
          let x1 = macro_piece wd span (print (over sp (macro t) xs)) flags m in
          let x2 = alternatives_piece wd (held sp D.args (renamed_all xs) D.alternatives) in
          let both = appends_then s g n lim ps w v x1 u w1 x2 r w2 (steady_head wd span (print (over sp (macro t) xs)) flags m) C.popped.going head z in
          let flag = j ∙ call_flags s w g n lim q d v ps four left e sp t xs four' end D C in
          appends_is s g n lim ps w v (then_piece x1 x2) r w2 both (item_piece wd (item (expanded_by sp (print (over sp (macro t) xs)) (renamed_all xs) D)))
          refl
          (ap (λ (S : List ℕ). (16 ∷ (S ++ (le wd (number T key) ++ ((bit D.inline + (bit D.public + bit D.public)) ∷ (0 ∷ le 2 (length as')))))) ++ bytes_of_each (alternative_bytes wd T) as') (sym i)
          ∙ ap (λ (f : ℕ). (16 ∷ (le 8 span ++ (le wd (number T key) ++ (f ∷ (0 ∷ le 2 (length as')))))) ++ bytes_of_each (alternative_bytes wd T) as') (sym flag)
          ∙ ap (λ (h : ℕ). (16 ∷ (le 8 span ++ (le wd (number T key) ++ (flags ∷ (0 ∷ le 2 h))))) ++ bytes_of_each (alternative_bytes wd T) as') (sym k))
          (ap (λ (b : Bool). b && each alternative_fits (held sp D.args (renamed_all xs) D.alternatives)) (lt-ltb (length (held sp D.args (renamed_all xs) D.alternatives)) 65536 (omega (arith, k))))

-- ---- put_macro
-- the item's command was appended, and its alternatives are to come
pub record StartsMacro (s w : List ℕ) (g : Ground) (n lim q d : ℕ) (x : MacroCall) (m : ℕ) (v r : Appended) (w' : List ℕ) : Type 0 where
  pub frame : SomeFramed s w' g n lim x.call r
  pub some : SomeAlternatives s w' g x.call x.span x.many x.from r
  pub carry : (t : Appended) (w'' : List ℕ) → PutsHolding s w' g n lim x.call x.span x.many x.from r t w'' → PutsMacro s w g n lim q d m v t w''

module _ (s w : List ℕ) (g : Ground) (n lim q d : ℕ) (v : Appended) (K : SomeCall s w g n lim q d v) where
  abbrev C0 : Calls s w g n lim q d v K.places K.four K.left K.end K.span K.name K.arguments K.four' K.behind K.definition
  C0 = K.calls

  inside : g.from + q + 9 ≤ g.end
  unfolding size_in
  inside = omega (arith, call_inside s w g n lim q d v K.places K.four K.left K.end K.span K.name K.arguments K.four' K.behind K.definition C0, C0.popped.going.ground.ordered)

  pub macro_call : g.from + q + 16 ≤ length w
  macro_call = omega (arith, inside, C0.popped.going.behind)

  ahead : d + 13 + g.width.bytes ≤ K.behind
  ahead = call_head s w g n lim q d v K.places K.four K.left K.end K.span K.name K.arguments K.four' K.behind K.definition C0

  pub macro_definition : d + 16 ≤ length w
  macro_definition = omega (arith, ahead, C0.defines.placed.behind)

  module _ (x : MacroCall) (R : ReadsCall w g q d x) where
    pub macro_readable : ReadableCall g x.call w
    macro_readable = call_readable s w g n lim q d v K.places K.four K.left K.end K.span K.name K.arguments K.four' K.behind K.definition C0 x R

    pub macro_few : x.many < 65536
    macro_few = R.few

    module _ (b : (j : ℕ) → Bound.Fits w8 (get_or w j 0)) (m : ℕ) (u : Appended) (w1 : List ℕ)
        (G : PutsHead s w g n lim q x.span x.flags m v u w1) where
      H : PutsHead s w g n lim q x.span (get_or w (d + 9 + g.width.bytes) 0) m v u w1
      H = subst (λ (f : ℕ). PutsHead s w g n lim q x.span f m v u w1) R.flags G

      macro_frame : SomeFramed s w1 g n lim x.call u
      macro_frame = record {
        places = K.places;
        names = K.definition.args;
        args = K.arguments;
        framed = item_framed s w g n lim q d v K.places K.four K.left K.end K.span K.name K.arguments K.four' K.behind K.definition C0 x R x.span (get_or w (d + 9 + g.width.bytes) 0) m u w1 H;
      }

      macro_some : SomeAlternatives s w1 g x.call x.span x.many x.from u
      macro_some =
          item_some s w g n lim q d v K.places K.four K.left K.end K.span K.name K.arguments K.four' K.behind K.definition C0 x R x.span (get_or w (d + 9 + g.width.bytes) 0) m u w1 H
          (span_of s w g n lim q d v K.places K.four K.left K.end K.span K.name K.arguments K.four' K.behind K.definition C0 b x.span R.span)

      macro_put : m < 65536 → (r : Appended) (w2 : List ℕ) → PutsHolding s w1 g n lim x.call x.span x.many x.from u r w2 → PutsMacro s w g n lim q d m v r w2
      unfolding PutsMacro
      macro_put l r w2 U ps four left e sp t xs four' end D C z =
          item_whole s w g n lim q d v ps four left e sp t xs four' end D C x R x.span (get_or w (d + 9 + g.width.bytes) 0) m u w1 H
          (span_of s w g n lim q d v ps four left e sp t xs four' end D C b x.span R.span) refl z (omega arith) r w2 U

      pub macro_starts : m < 65536 → StartsMacro s w g n lim q d x m v u w1
      macro_starts l = record { frame = macro_frame; some = macro_some; carry = λ t w2 U. macro_put l t w2 U }

-- ---- the same of the call and the definition that were read
module _ (s w : List ℕ) (g : Ground) (n lim q d : ℕ) (v : Appended) (x : MacroCall) (R : ReadsCall w g q d x) where
  pub macro_some_call : SomeCall s w g n lim q d v → SomeCall s w g n lim x.at x.definition v
  macro_some_call K = rw (R.at, R.definition) K

  pub macro_reads : ReadsCall w g x.at x.definition x
  macro_reads = subst (λ (i : ℕ). ReadsCall w g i x.definition x) (sym R.at) (subst (λ (i : ℕ). ReadsCall w g q i x) (sym R.definition) R)

-- ---- expand_macro_symbol: what was handed on of what was counted
abbrev ok_in : ℕ → Result ℕ Refusal → ℕ
ok_in x (Ok y) = y
ok_in x (Err r) = x

pub of_ok : (u : Result ℕ NotLiteral) (o : Result ℕ Refusal) (Q : NotLiteral → Refusal → Type 0) → MatchResult u (λ x. o ≡ Ok x) (λ e. IsErrAnd o (Q e)) → (m : ℕ) → o ≡ Ok m → u ≡ Ok m
of_ok (Ok x) o Q h m z = ap (λ (q : Result ℕ Refusal). Ok (ok_in x q)) (sym h ∙ z)
of_ok (Err e) o Q h m z = absurd (subst (λ (q : Result ℕ Refusal). IsErrAnd q (Q e)) z h)

pub of_err : (u : Result ℕ NotLiteral) (o : Result ℕ Refusal) (Q : NotLiteral → Refusal → Type 0) → MatchResult u (λ x. o ≡ Ok x) (λ e. IsErrAnd o (Q e)) → (r : Refusal) → o ≡ Err r → (e : NotLiteral) × (u ≡ Err e) × Q e r
of_err (Ok x) o Q h r z = absurd (subst (λ (q : Result ℕ Refusal). IsErrAnd q (λ e. e ≡ e)) (sym z ∙ h) refl)
of_err (Err e) o Q h r z = (e, refl, subst (λ (q : Result ℕ Refusal). IsErrAnd q (Q e)) z h)

module _ (s w : List ℕ) (g : Ground) (n lim q d : ℕ) (v : Appended) (K : SomeCall s w g n lim q d v) (x : MacroCall) (R : ReadsCall w g q d x) (u : Result ℕ NotLiteral) (i : u ≡ hold_from g x.call w x.many x.from 0) where
  tells : Tells s w g n lim x.call v K.places K.definition.args K.arguments (F s w g n lim q d v K.places K.four K.left K.end K.span K.name K.arguments K.four' K.behind K.definition K.calls x R) K.span K.definition.alternatives 0 u
  tells = call_tells s w g n lim q d v K.places K.four K.left K.end K.span K.name K.arguments K.four' K.behind K.definition K.calls x R u i

  -- ---- refused
  module _ (f : NotLiteral) (h : u ≡ Err f) where
    pub expand_room : f.at + 9 ≤ length w
    expand_room =
        let z = subst (Tells s w g n lim x.call v K.places K.definition.args K.arguments (F s w g n lim q d v K.places K.four K.left K.end K.span K.name K.arguments K.four' K.behind K.definition K.calls x R) K.span K.definition.alternatives 0) h tells in
        omega (arith, z.1, R.end)

    pub expand_refused : (o : Refusal) → o ≡ refusal_over 17 (span_in w (f.at + 1)) → ExpandsMacro s w g n lim q d v (Err o) w
    unfolding ExpandsMacro ExpandsTo
    expand_refused o k ps four left e sp t xs four' end D C =
        let z = subst (Tells s w g n lim x.call v ps D.args xs (F s w g n lim q d v ps four left e sp t xs four' end D C x R) sp D.alternatives 0) h (call_tells s w g n lim q d v ps four left e sp t xs four' end D C x R u i) in
        subst (λ (a : Outcome (List Alternative)). ExpandsTo s w g n lim v ps (after a (λ as'. yes (record { span = sp; name = print (over sp (macro t) xs); inline = D.inline; public = D.public; args = []; alternatives = as' }))) (Err o) w) (sym z.0)
        (ap (λ (b : Refusal). Err b) k)

  -- ---- appended
  module _ (m : ℕ) (h : u ≡ Ok m) where
    pub expand_few : m < 65536
    expand_few =
        let z = subst (Tells s w g n lim x.call v K.places K.definition.args K.arguments (F s w g n lim q d v K.places K.four K.left K.end K.span K.name K.arguments K.four' K.behind K.definition K.calls x R) K.span K.definition.alternatives 0) h tells in
        omega (arith, z.1, held-few K.span K.definition.args (renamed_all K.arguments) K.definition.alternatives, K.calls.defines.within.fewer)

    pub expand_is : (r : Appended) (w' : List ℕ) → PutsMacro s w g n lim x.at x.definition m v r w' → ExpandsMacro s w g n lim q d v (Ok r) w'
    unfolding ExpandsMacro ExpandsTo PutsMacro
    expand_is r w' U ps four left e sp t xs four' end D C =
        let z = subst (Tells s w g n lim x.call v ps D.args xs (F s w g n lim q d v ps four left e sp t xs four' end D C x R) sp D.alternatives 0) h (call_tells s w g n lim q d v ps four left e sp t xs four' end D C x R u i) in
        subst (λ (a : Outcome (List Alternative)). ExpandsTo s w g n lim v ps (after a (λ as'. yes (record { span = sp; name = print (over sp (macro t) xs); inline = D.inline; public = D.public; args = []; alternatives = as' }))) (Ok r) w') (sym z.0)
        (r, refl, (rw (R.at, R.definition) at U) ps four left e sp t xs four' end D C (omega (arith, z.1)))

pub ruleset expanding_macro = (rules, macro_call, macro_definition, macro_readable, macro_some_call, macro_reads, macro_few, expand_room, expand_refused, expand_few, expand_is)
