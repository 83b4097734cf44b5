-- Laws of the code that appends the alternatives that hold, one behind another. Assumes nothing.
use mathlib.Core.Path.{◌≡◌, refl, sym, ap, ◌∙◌, subst}
use mathlib.Core.Bool.{Bool, true, false, cond}
use mathlib.Core.List.{List, [], ◌∷◌}
use Prim.Native.Nat.{ℕ, ◌+◌, ◌-◌, ◌≤◌, ◌<◌}
use native.Mathlib.Omega.{arith}
use borrow.Author.Rules.{rules}
use lib.ListN.{length}
use Rattle.octets.specs.Plain.Numbers.{le}
use Rattle.parse_tree.specs.Plain.Tree.{Text, Syms, Alternative}
use Rattle.parse_tree.specs.Plain.WriteTape.{bytes_of_each}
use Rattle.parse_tree.specs.Working.Nodes.{span_bytes}
use Rattle.parse_tree.specs.Working.Encode.{alternative_bytes}
use Rattle.parse_tree.specs.Working.Within.{Each, AlternativeWithin}
use Rattle.parse_tree.specs.declared.syntax.Span.{Span}
use Rattle.texts.specs.Table.{texts}
use Rattle.passes.specs.Outcome.{Outcome, yes, no}
use Rattle.passes.specs.Macros.{evaluate_cond, expand_alternative}
use Rattle.grades.specs.Annotations.{alternative_end}
use Rattle.grades.proofs.AlternativesMean.{end_means}
use Rattle.replacing.specs.Trees.{renamed_all}
use Rattle.expander.specs.declared.Ground.{Ground}
use Rattle.appending.specs.declared.Appended.{Appended}
use Rattle.appending.specs.Pieces.{Appends}
use Rattle.appending.proofs.SymbolsStays.{texts-stay}
use Rattle.macro_expand.specs.declared.arguments.Call.{Call}
use Rattle.macro_expand.specs.declared.arguments.NotLiteral.{NotLiteral}
use Rattle.std.specs.Prelude.{Result, Ok, Err}
use Rattle.macro_expand.specs.Arguments.{ReadableCall, holds_at}
use Rattle.macro_expand.specs.PutIn.{Placed, Framed, SomeFramed}
use Rattle.macro_expand.specs.Alternatives.{alternatives_piece, held, SomeAlternative, PutsAlternative, PutsIf, SomeAlternatives, PutsHolding}
use Rattle.macro_expand.proofs.FrameLaws.{placed_split, placed_stays, frame_stays, frame_readable}
use Rattle.macro_expand.proofs.AlternativesTrees.{parted}
use Rattle.macro_expand.proofs.AlternativesCode.{alternative_head_lem, alternative_upto}
use Rattle.macro_expand.proofs.AlternativesSteady.{yields_none, yields_one, held_then}
use Rattle.macro_expand.proofs.ConditionsMean.{told_by, holds-means}

-- ---- expand_if
module _ (s w : List ℕ) (g : Ground) (n lim : ℕ) (c : Call) (span p : ℕ) (v : Appended) where
  module _ (K : SomeFramed s w g n lim c v) (I : SomeAlternative s w g c p v) where
    pub if_readable : ReadableCall g c w
    if_readable = frame_readable s w g n lim c v K.places K.names K.args K.framed

    pub if_inside : p < c.end
    if_inside = omega (
      arith,
      alternative_head_lem s w g n lim c p v K.places K.names K.args I.four I.end I.alternative K.framed I.within I.placed,
      alternative_upto s w g n lim c p v K.places K.names K.args I.four I.end I.alternative K.framed I.within I.placed,
      I.upto,
    )

  module _ (j : Result Bool NotLiteral) (d : j ≡ holds_at g c w p) where
    -- what holds of it
    module _ (ps : List ℕ) (names : List Text) (args : Syms) (four : Bool) (e : ℕ) (a : Alternative) (sp : Span) (F : Framed s w g n lim c v ps names args) (W : AlternativeWithin four g.width.bytes (texts s w g.m) a)
        (P : Placed w g v p e (alternative_bytes g.width.bytes (texts s w g.m) a)) (u : e ≤ c.end) where
      means : evaluate_cond names (renamed_all args) a.condition ≡ told_by w j
      means = holds-means s w g n lim c v ps names args F p e a four W (parted four g.width.bytes (texts s w g.m) w p e a W P.lies) u ∙ ap (told_by w) (sym d)

      held-is : held sp names (renamed_all args) (a ∷ []) ≡ elim (told_by w j) [ yes b ↦ cond b (expand_alternative sp names (renamed_all args) a ∷ []) [] | no k q ↦ [] ]
      unfolding held
      held-is = ap (λ (o : Outcome Bool). elim o [ yes b ↦ cond b (expand_alternative sp names (renamed_all args) a ∷ []) [] | no k q ↦ [] ]) means

      none_held : held sp names (renamed_all args) (a ∷ []) ≡ [] → Appends s g n lim ps w v (alternatives_piece g.width.bytes (held sp names (renamed_all args) (a ∷ []))) v w
      none_held z = subst (λ (xs : List Alternative). Appends s g n lim ps w v (alternatives_piece g.width.bytes xs) v w) (sym z) (yields_none s g n lim ps w v F.going)

    pub if_refused : (e : NotLiteral) → j ≡ Err e → PutsIf s w g n lim c span p v v w
    unfolding PutsIf
    if_refused z i ps names args four e a sp F W P u S =
        none_held ps names args four e a sp F W P u (held-is ps names args four e a sp F W P u ∙ ap (λ (o : Result Bool NotLiteral). elim (told_by w o) [ yes b ↦ cond b (expand_alternative sp names (renamed_all args) a ∷ []) [] | no k q ↦ [] ]) i)

    module _ (b : Bool) (i : j ≡ Ok b) where
      by : (ps : List ℕ) (names : List Text) (args : Syms) (four : Bool) (e : ℕ) (a : Alternative) (sp : Span) → Framed s w g n lim c v ps names args → AlternativeWithin four g.width.bytes (texts s w g.m) a
          → Placed w g v p e (alternative_bytes g.width.bytes (texts s w g.m) a) → e ≤ c.end → held sp names (renamed_all args) (a ∷ []) ≡ cond b (expand_alternative sp names (renamed_all args) a ∷ []) []
      by ps names args four e a sp F W P u =
          held-is ps names args four e a sp F W P u ∙ ap (λ (o : Result Bool NotLiteral). elim (told_by w o) [ yes t ↦ cond t (expand_alternative sp names (renamed_all args) a ∷ []) [] | no k q ↦ [] ]) i

      pub if_not : b ≡ false → PutsIf s w g n lim c span p v v w
      unfolding PutsIf
      if_not z ps names args four e a sp F W P u S =
          none_held ps names args four e a sp F W P u (by ps names args four e a sp F W P u ∙ ap (λ (t : Bool). cond t (expand_alternative sp names (renamed_all args) a ∷ []) []) z)

      pub if_put : b ≡ true → (r : Appended) (w' : List ℕ) → PutsAlternative s w g n lim c span p v r w' → PutsIf s w g n lim c span p v r w'
      unfolding PutsIf PutsAlternative
      if_put z r w' U ps names args four e a sp F W P u S =
          subst (λ (xs : List Alternative). Appends s g n lim ps w v (alternatives_piece g.width.bytes xs) r w') (sym (by ps names args four e a sp F W P u ∙ ap (λ (t : Bool). cond t (expand_alternative sp names (renamed_all args) a ∷ []) []) z))
          (yields_one s g n lim ps w v (expand_alternative sp names (renamed_all args) a) r w' (U ps names args four e a sp F W P u S))

pub ruleset iffing = (rules, if_readable, if_inside, if_refused, if_not, if_put)

-- ---- expand_alternatives: w₀ is work before; of k alternatives from `from` on, i are to come from p on
module _ (s w₀ : List ℕ) (g : Ground) (n lim : ℕ) (c : Call) (span k from : ℕ) (v : Appended) where
  -- of the alternatives xs
  pub record Rest (w : List ℕ) (i p : ℕ) (r : Appended) (ps : List ℕ) (names : List Text) (args : Syms) (four : Bool) (e : ℕ) (xs : List Alternative) (sp : Span) : Type 0 where
    pub zs : List Alternative
    pub many : length zs ≡ i
    pub framed : Framed s w g n lim c r ps names args
    pub within : Each (AlternativeWithin four g.width.bytes (texts s w g.m)) zs
    pub placed : Placed w g r p e (bytes_of_each (alternative_bytes g.width.bytes (texts s w g.m)) zs)
    pub upto : e ≤ c.end
    pub span_is : le 8 span ≡ span_bytes sp
    pub carry : (v' : Appended) (w' : List ℕ) → Appends s g n lim ps w r (alternatives_piece g.width.bytes (held sp names (renamed_all args) zs)) v' w'
        → Appends s g n lim ps w₀ v (alternatives_piece g.width.bytes (held sp names (renamed_all args) xs)) v' w'

  pub record Adding (w : List ℕ) (i p : ℕ) (r : Appended) : Type 0 where
    pub frame : SomeFramed s w g n lim c r
    pub some : SomeAlternatives s w g c span i p r
    pub long : length w ≡ length w₀
    pub each : (ps : List ℕ) (names : List Text) (args : Syms) (four : Bool) (e : ℕ) (xs : List Alternative) (sp : Span) → Framed s w₀ g n lim c v ps names args → length xs ≡ k
        → Each (AlternativeWithin four g.width.bytes (texts s w₀ g.m)) xs → Placed w₀ g v from e (bytes_of_each (alternative_bytes g.width.bytes (texts s w₀ g.m)) xs) → e ≤ c.end → le 8 span ≡ span_bytes sp
        → Rest w i p r ps names args four e xs sp

  pub adding_start : SomeFramed s w₀ g n lim c v → SomeAlternatives s w₀ g c span k from v → Adding w₀ k from v
  adding_start K I = record {
    frame = K;
    some = I;
    long = refl;
    each = λ ps names args four e xs sp F m W P u S. record { zs = xs; many = m; framed = F; within = W; placed = P; upto = u; span_is = S; carry = λ v' w' a. a };
  }

  module _ (w : List ℕ) (i p : ℕ) (r : Appended) (inv : Adding w i p r) where
    pub adding_frame : SomeFramed s w g n lim c r
    adding_frame = inv.frame

    pub adding_long : length w ≡ length w₀
    adding_long = inv.long

    pub adding_definition : c.end + 16 ≤ length w
    adding_definition = inv.frame.framed.definition

    pub adding_done : i ≤ 0 → PutsHolding s w₀ g n lim c span k from v r w
    unfolding PutsHolding held
    adding_done z ps names args four e xs sp F m W P u S = go o.zs o.many o.carry
      where
        o : Rest w i p r ps names args four e xs sp
        o = inv.each ps names args four e xs sp F m W P u S

        go : (zs : List Alternative) → length zs ≡ i
            → ((v' : Appended) (w' : List ℕ) → Appends s g n lim ps w r (alternatives_piece g.width.bytes (held sp names (renamed_all args) zs)) v' w' → Appends s g n lim ps w₀ v (alternatives_piece g.width.bytes (held sp names (renamed_all args) xs)) v' w')
            → Appends s g n lim ps w₀ v (alternatives_piece g.width.bytes (held sp names (renamed_all args) xs)) r w
        go [] j t = t r w (yields_none s g n lim ps w r o.framed.going)
        go (y ∷ ys) j t = absurd (omega arith)

    module _ (positive : 0 < i) where
      pub adding_first : SomeAlternative s w g c p r
      unfolding bytes_of_each
      adding_first = go inv.some.alternatives inv.some.many inv.some.within inv.some.placed
        where
          go : (ys : List Alternative) → length ys ≡ i → Each (AlternativeWithin inv.some.four g.width.bytes (texts s w g.m)) ys → Placed w g r p inv.some.end (bytes_of_each (alternative_bytes g.width.bytes (texts s w g.m)) ys)
              → SomeAlternative s w g c p r
          go [] j W P = absurd (omega arith)
          go (y ∷ ys) j W P =
              let a = placed_split w g r p inv.some.end (alternative_bytes g.width.bytes (texts s w g.m) y) (bytes_of_each (alternative_bytes g.width.bytes (texts s w g.m)) ys) P in
              record { four = inv.some.four; end = _; alternative = y; within = W.0; placed = a.0; upto = omega (arith, a.1.lies.end, inv.some.upto) }

      pub adding_inside : p < c.end
      adding_inside = if_inside s w g n lim c span p r inv.frame adding_first

      module _ (q : ℕ) (d : q ≡ alternative_end g.width.bytes w p c.end) (t : Appended) (w' : List ℕ) (one : PutsIf s w g n lim c span p r t w') where
        module _ (ps : List ℕ) (names : List Text) (args : Syms) (four : Bool) (e : ℕ) (y : Alternative) (ys : List Alternative) (sp : Span) (F : Framed s w g n lim c r ps names args)
            (W : Each (AlternativeWithin four g.width.bytes (texts s w g.m)) (y ∷ ys)) (P : Placed w g r p e (bytes_of_each (alternative_bytes g.width.bytes (texts s w g.m)) (y ∷ ys))) (u : e ≤ c.end) (S : le 8 span ≡ span_bytes sp) where
          abbrev ts : List Text
          ts = texts s w g.m

          abbrev size : ℕ
          size = length (alternative_bytes g.width.bytes ts y)

          parts : Placed w g r p (p + length (alternative_bytes g.width.bytes ts y)) (alternative_bytes g.width.bytes ts y) × Placed w g r (p + length (alternative_bytes g.width.bytes ts y)) e (bytes_of_each (alternative_bytes g.width.bytes ts) ys)
          unfolding bytes_of_each
          parts = placed_split w g r p e (alternative_bytes g.width.bytes ts y) (bytes_of_each (alternative_bytes g.width.bytes ts) ys) P

          place : q ≡ p + size
          unfolding bytes_of_each
          place = d ∙ end_means four g.width.bytes ts w p c.end e y (bytes_of_each (alternative_bytes g.width.bytes ts) ys) W.0 P.lies (omega (arith, parts.1.lies.end))

          put : Appends s g n lim ps w r (alternatives_piece g.width.bytes (held sp names (renamed_all args) (y ∷ []))) t w'
          unfolding PutsIf
          put = one ps names args four (p + size) y sp F W.0 parts.0 (omega (arith, parts.1.lies.end)) S

          abbrev piece : List Alternative
          piece = held sp names (renamed_all args) (y ∷ [])

          same : texts s w' g.m ≡ ts
          same = texts-stay s g n lim ps w r F.going (alternatives_piece g.width.bytes piece) t w' put

          next_framed : Framed s w' g n lim c t ps names args
          next_framed = frame_stays s g n lim c w r ps names args F (alternatives_piece g.width.bytes piece) t w' put

          next_within : Each (AlternativeWithin four g.width.bytes (texts s w' g.m)) ys
          next_within = subst (λ (us : List Text). Each (AlternativeWithin four g.width.bytes us) ys) (sym same) W.1

          next_placed : Placed w' g t q e (bytes_of_each (alternative_bytes g.width.bytes (texts s w' g.m)) ys)
          next_placed =
              let a = placed_stays s g n lim ps w r F.going (alternatives_piece g.width.bytes piece) t w' put (p + size) e (bytes_of_each (alternative_bytes g.width.bytes ts) ys) parts.1 in
              subst (λ (us : List Text). Placed w' g t q e (bytes_of_each (alternative_bytes g.width.bytes us) ys)) (sym same) (subst (λ (j : ℕ). Placed w' g t j e (bytes_of_each (alternative_bytes g.width.bytes ts) ys)) (sym place) a)

          next_long : length w' ≡ length w
          next_long = put.long

          next_carry : (v'' : Appended) (w'' : List ℕ) → Appends s g n lim ps w' t (alternatives_piece g.width.bytes (held sp names (renamed_all args) ys)) v'' w''
              → Appends s g n lim ps w r (alternatives_piece g.width.bytes (held sp names (renamed_all args) (y ∷ ys))) v'' w''
          next_carry v'' w'' a = held_then s g n lim ps sp names (renamed_all args) y ys w r t w' v'' w'' F.going put a

        next_each : (ps : List ℕ) (names : List Text) (args : Syms) (four : Bool) (e : ℕ) (xs : List Alternative) (sp : Span) → Rest w i p r ps names args four e xs sp → Rest w' (i - 1) q t ps names args four e xs sp
        next_each ps names args four e xs sp o = go o.zs o.many o.within o.placed o.carry
          where
            go : (zs : List Alternative) → length zs ≡ i → Each (AlternativeWithin four g.width.bytes (texts s w g.m)) zs → Placed w g r p e (bytes_of_each (alternative_bytes g.width.bytes (texts s w g.m)) zs)
                → ((v' : Appended) (w'' : List ℕ) → Appends s g n lim ps w r (alternatives_piece g.width.bytes (held sp names (renamed_all args) zs)) v' w''
                → Appends s g n lim ps w₀ v (alternatives_piece g.width.bytes (held sp names (renamed_all args) xs)) v' w'')
                → Rest w' (i - 1) q t ps names args four e xs sp
            go [] j W P f = absurd (omega arith)
            go (z ∷ zs) j W P f = record {
              zs = zs;
              many = omega arith;
              framed = next_framed ps names args four e z zs sp o.framed W P o.upto o.span_is;
              within = next_within ps names args four e z zs sp o.framed W P o.upto o.span_is;
              placed = next_placed ps names args four e z zs sp o.framed W P o.upto o.span_is;
              upto = o.upto;
              span_is = o.span_is;
              carry = λ v' w'' a. f v' w'' (next_carry ps names args four e z zs sp o.framed W P o.upto o.span_is v' w'' a);
            }

        record Next : Type 0 where
          pub alternatives : SomeAlternatives s w' g c span (i - 1) q t
          pub frame : SomeFramed s w' g n lim c t
          pub long : length w' ≡ length w

        next-some : (sp : Span) → le 8 span ≡ span_bytes sp → Next
        next-some sp S = go inv.some.alternatives inv.some.many inv.some.within inv.some.placed
          where
            K : SomeFramed s w g n lim c r
            K = inv.frame

            go : (ys : List Alternative) → length ys ≡ i → Each (AlternativeWithin inv.some.four g.width.bytes (texts s w g.m)) ys → Placed w g r p inv.some.end (bytes_of_each (alternative_bytes g.width.bytes (texts s w g.m)) ys) → Next
            go [] j W P = absurd (omega arith)
            go (y ∷ ys) j W P = record {
              alternatives = record {
                span_of = inv.some.span_of;
                span_is = inv.some.span_is;
                four = inv.some.four;
                end = inv.some.end;
                alternatives = ys;
                many = omega arith;
                within = next_within K.places K.names K.args inv.some.four inv.some.end y ys sp K.framed W P inv.some.upto S;
                placed = next_placed K.places K.names K.args inv.some.four inv.some.end y ys sp K.framed W P inv.some.upto S;
                upto = inv.some.upto;
              };
              frame = record { places = K.places; names = K.names; args = K.args; framed = next_framed K.places K.names K.args inv.some.four inv.some.end y ys sp K.framed W P inv.some.upto S };
              long = next_long K.places K.names K.args inv.some.four inv.some.end y ys sp K.framed W P inv.some.upto S;
            }

        pub adding_next : Adding w' (i - 1) q t
        adding_next =
            let N = next-some inv.some.span_of inv.some.span_is in
            record {
              frame = N.frame;
              some = N.alternatives;
              long = N.long ∙ inv.long;
              each = λ ps names args four e xs sp F m W P u S. next_each ps names args four e xs sp (inv.each ps names args four e xs sp F m W P u S);
            }

pub ruleset adding = (rules, adding_start, adding_frame, adding_long, adding_definition, adding_done, adding_first, adding_inside, adding_next)
