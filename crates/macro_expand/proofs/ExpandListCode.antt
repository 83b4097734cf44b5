-- Laws of `macro_expand_symbols`: symbol by symbol, what is to come makes the whole. Assumes nothing.
use mathlib.Core.Path.{◌≡◌, refl, sym, ◌∙◌, subst}
use mathlib.Core.Bool.{Bool}
use mathlib.Core.List.{List, [], ◌++◌}
use Prim.Native.Nat.{ℕ, ◌+◌, ◌-◌, ◌*◌, ◌≤◌, ◌<◌}
use native.Mathlib.Omega.{arith}
use borrow.Author.Rules.{rules}
use lib.ListN.{length}
use Rattle.parse_tree.specs.Plain.Tree.{Text, Sym, Syms, nil, cons, count}
use Rattle.parse_tree.specs.Plain.References.{syms_texts}
use Rattle.parse_tree.specs.Working.Encode.{sym_bytes, syms_bytes}
use Rattle.parse_tree.specs.Working.Within.{SymsWithin}
use Rattle.texts.specs.Table.{texts}
use Rattle.passes.specs.Macros.{macro_expand_symbol, macro_expand_symbols}
use Rattle.replacing.specs.Trees.{renamed_all}
use Rattle.replacing.proofs.ThereBytes.{sym_known}
use Rattle.expander.specs.declared.Ground.{Ground}
use Rattle.appending.specs.declared.Appended.{Appended}
use Rattle.appending.specs.declared.symbols.Copied.{Copied}
use Rattle.appending.specs.Pieces.{plainly, then_piece, Steady, Appends}
use Rattle.appending.proofs.PiecesLaws.{appends-none, appends_then, appends_is}
use Rattle.appending.proofs.SymbolsStays.{texts-stay}
use Rattle.macro_expand.specs.declared.arguments.Call.{Call}
use Rattle.macro_expand.specs.PutIn.{sym_piece, syms_piece, Placed, Framed, SomeFramed, SomeInside, SomeInsides, PutsIn, PutsInAll}
use Rattle.macro_expand.proofs.FrameLaws.{placed_split, placed_stays, frame_stays}

pub steady_symbol : (wd : ℕ) (y : Sym) (left : ℕ) → Steady (sym_piece wd y left)
steady_symbol wd y left = record { same = λ ts us h. sym_known wd ts (ts ++ us) (record { more = us; is = refl }) y h }

-- w₀ is work before; of k symbols from x on, i are to come from r on
module _ (s w₀ : List ℕ) (g : Ground) (n lim : ℕ) (c : Call) (left k : ℕ) (x : Copied) where
  -- of the symbols ys
  pub record Ahead (w : List ℕ) (r : Copied) (i : ℕ) (ps : List ℕ) (names : List Text) (args : Syms) (four : Bool) (e : ℕ) (ys : Syms) : Type 0 where
    pub zs : Syms
    pub many : count zs ≡ i
    pub framed : Framed s w g n lim c r.out ps names args
    pub within : SymsWithin four g.width.bytes (texts s w g.m) zs left
    pub placed : Placed w g r.out r.at e (syms_bytes g.width.bytes (texts s w g.m) zs)
    pub carry : (v' : Appended) (w' : List ℕ) → Appends s g n lim ps w r.out (syms_piece g.width.bytes (macro_expand_symbols names (renamed_all args) zs) left) v' w'
        → Appends s g n lim ps w₀ x.out (syms_piece g.width.bytes (macro_expand_symbols names (renamed_all args) ys) left) v' w'

  pub record Filling (w : List ℕ) (r : Copied) (i : ℕ) : Type 0 where
    pub frame : SomeFramed s w g n lim c r.out
    pub some : SomeInsides s w g left i r
    pub long : length w ≡ length w₀
    pub each : (ps : List ℕ) (names : List Text) (args : Syms) (four : Bool) (e : ℕ) (ys : Syms) → Framed s w₀ g n lim c x.out ps names args → count ys ≡ k
        → SymsWithin four g.width.bytes (texts s w₀ g.m) ys left → Placed w₀ g x.out x.at e (syms_bytes g.width.bytes (texts s w₀ g.m) ys) → Ahead w r i ps names args four e ys

  pub filling_start : SomeFramed s w₀ g n lim c x.out → SomeInsides s w₀ g left k x → Filling w₀ x k
  filling_start K I = record {
    frame = K;
    some = I;
    long = refl;
    each = λ ps names args four e ys F m W P. record { zs = ys; many = m; framed = F; within = W; placed = P; carry = λ v' w' a. a };
  }

  module _ (w : List ℕ) (r : Copied) (i : ℕ) (inv : Filling w r i) where
    pub filling_frame : SomeFramed s w g n lim c r.out
    filling_frame = inv.frame

    pub filling_long : length w ≡ length w₀
    filling_long = inv.long

    pub filling_done : i ≤ 0 → PutsInAll s w₀ g n lim c left k x r w
    unfolding PutsInAll count macro_expand_symbols syms_bytes syms_texts
    filling_done z ps names args four e ys F m W P = go o.zs o.many o.placed o.carry
      where
        o : Ahead w r i ps names args four e ys
        o = inv.each ps names args four e ys F m W P

        go : (zs : Syms) → count zs ≡ i → Placed w g r.out r.at e (syms_bytes g.width.bytes (texts s w g.m) zs)
            → ((v' : Appended) (w' : List ℕ) → Appends s g n lim ps w r.out (syms_piece g.width.bytes (macro_expand_symbols names (renamed_all args) zs) left) v' w'
            → Appends s g n lim ps w₀ x.out (syms_piece g.width.bytes (macro_expand_symbols names (renamed_all args) ys) left) v' w')
            → (r.at ≡ e) × Appends s g n lim ps w₀ x.out (syms_piece g.width.bytes (macro_expand_symbols names (renamed_all args) ys) left) r.out w
        go nil j p u =
            (omega (arith, p.lies.end), u r.out w (appends_is s g n lim ps w r.out (plainly []) r.out w (appends-none s g n lim ps w r.out o.framed.going) (syms_piece g.width.bytes nil left) refl refl refl))
        go (cons y zs) j p u = absurd (omega arith)

    module _ (positive : 0 < i) where
      pub filling_falls : (t : ℕ) → 2 * left + 1 ≡ t → 2 * left < t
      filling_falls t e = omega arith

      pub filling_first : SomeInside s w g left r
      unfolding count syms_bytes
      filling_first = go inv.some.symbols inv.some.many inv.some.within inv.some.placed
        where
          go : (ys : Syms) → count ys ≡ i → SymsWithin inv.some.four g.width.bytes (texts s w g.m) ys left → Placed w g r.out r.at inv.some.end (syms_bytes g.width.bytes (texts s w g.m) ys) → SomeInside s w g left r
          go nil j W P = absurd (omega arith)
          go (cons y ys) j W P = record {
            four = inv.some.four;
            end = _;
            symbol = y;
            within = W.0;
            placed = (placed_split w g r.out r.at inv.some.end (sym_bytes g.width.bytes (texts s w g.m) y) (syms_bytes g.width.bytes (texts s w g.m) ys) P).0;
          }

      module _ (t : Copied) (w' : List ℕ) (one : PutsIn s w g n lim c left r t w') where
        -- the first of those to come
        module _ (ps : List ℕ) (names : List Text) (args : Syms) (four : Bool) (e : ℕ) (y : Sym) (ys : Syms) (F : Framed s w g n lim c r.out ps names args)
            (W : SymsWithin four g.width.bytes (texts s w g.m) (cons y ys) left) (P : Placed w g r.out r.at e (syms_bytes g.width.bytes (texts s w g.m) (cons y ys))) where
          abbrev ts : List Text
          ts = texts s w g.m

          parts : Placed w g r.out r.at (r.at + length (sym_bytes g.width.bytes ts y)) (sym_bytes g.width.bytes ts y) × Placed w g r.out (r.at + length (sym_bytes g.width.bytes ts y)) e (syms_bytes g.width.bytes ts ys)
          unfolding syms_bytes
          parts = placed_split w g r.out r.at e (sym_bytes g.width.bytes ts y) (syms_bytes g.width.bytes ts ys) P

          put : (t.at ≡ r.at + length (sym_bytes g.width.bytes ts y)) × Appends s g n lim ps w r.out (sym_piece g.width.bytes (macro_expand_symbol names (renamed_all args) y) left) t.out w'
          unfolding PutsIn
          put = one ps names args four (r.at + length (sym_bytes g.width.bytes ts y)) y F W.0 parts.0

          same : texts s w' g.m ≡ ts
          same = texts-stay s g n lim ps w r.out F.going (sym_piece g.width.bytes (macro_expand_symbol names (renamed_all args) y) left) t.out w' put.1

          next_framed : Framed s w' g n lim c t.out ps names args
          next_framed = frame_stays s g n lim c w r.out ps names args F (sym_piece g.width.bytes (macro_expand_symbol names (renamed_all args) y) left) t.out w' put.1

          next_within : SymsWithin four g.width.bytes (texts s w' g.m) ys left
          next_within = subst (λ (us : List Text). SymsWithin four g.width.bytes us ys left) (sym same) W.1

          next_placed : Placed w' g t.out t.at e (syms_bytes g.width.bytes (texts s w' g.m) ys)
          next_placed =
              let a = placed_stays s g n lim ps w r.out F.going (sym_piece g.width.bytes (macro_expand_symbol names (renamed_all args) y) left) t.out w' put.1 (r.at + length (sym_bytes g.width.bytes ts y)) e (syms_bytes g.width.bytes ts ys) parts.1 in
              subst (λ (us : List Text). Placed w' g t.out t.at e (syms_bytes g.width.bytes us ys)) (sym same) (subst (λ (j : ℕ). Placed w' g t.out j e (syms_bytes g.width.bytes ts ys)) (sym put.0) a)

          next_long : length w' ≡ length w
          next_long = put.1.long

          next_carry : (v'' : Appended) (w'' : List ℕ) → Appends s g n lim ps w' t.out (syms_piece g.width.bytes (macro_expand_symbols names (renamed_all args) ys) left) v'' w''
              → Appends s g n lim ps w r.out (syms_piece g.width.bytes (macro_expand_symbols names (renamed_all args) (cons y ys)) left) v'' w''
          unfolding macro_expand_symbols syms_texts syms_bytes
          next_carry v'' w'' a =
              let x1 = sym_piece g.width.bytes (macro_expand_symbol names (renamed_all args) y) left in
              let x2 = syms_piece g.width.bytes (macro_expand_symbols names (renamed_all args) ys) left in
              appends_is s g n lim ps w r.out (then_piece x1 x2) v'' w''
              (appends_then s g n lim ps w r.out x1 t.out w' x2 v'' w'' (steady_symbol g.width.bytes (macro_expand_symbol names (renamed_all args) y) left) F.going put.1 a)
              (syms_piece g.width.bytes (macro_expand_symbols names (renamed_all args) (cons y ys)) left) refl refl refl

        next_each : (ps : List ℕ) (names : List Text) (args : Syms) (four : Bool) (e : ℕ) (ys : Syms) → Ahead w r i ps names args four e ys → Ahead w' t (i - 1) ps names args four e ys
        unfolding count
        next_each ps names args four e ys o = go o.zs o.many o.within o.placed o.carry
          where
            go : (zs : Syms) → count zs ≡ i → SymsWithin four g.width.bytes (texts s w g.m) zs left → Placed w g r.out r.at e (syms_bytes g.width.bytes (texts s w g.m) zs)
                → ((v' : Appended) (w'' : List ℕ) → Appends s g n lim ps w r.out (syms_piece g.width.bytes (macro_expand_symbols names (renamed_all args) zs) left) v' w''
                → Appends s g n lim ps w₀ x.out (syms_piece g.width.bytes (macro_expand_symbols names (renamed_all args) ys) left) v' w'')
                → Ahead w' t (i - 1) ps names args four e ys
            go nil j W P u = absurd (omega arith)
            go (cons z zs) j W P u = record {
              zs = zs;
              many = omega arith;
              framed = next_framed ps names args four e z zs o.framed W P;
              within = next_within ps names args four e z zs o.framed W P;
              placed = next_placed ps names args four e z zs o.framed W P;
              carry = λ v' w'' a. u v' w'' (next_carry ps names args four e z zs o.framed W P v' w'' a);
            }

        record Some : Type 0 where
          pub insides : SomeInsides s w' g left (i - 1) t
          pub frame : SomeFramed s w' g n lim c t.out
          pub long : length w' ≡ length w

        next-some : Some
        unfolding count
        next-some = go inv.some.symbols inv.some.many inv.some.within inv.some.placed
          where
            K : SomeFramed s w g n lim c r.out
            K = inv.frame

            go : (ys : Syms) → count ys ≡ i → SymsWithin inv.some.four g.width.bytes (texts s w g.m) ys left → Placed w g r.out r.at inv.some.end (syms_bytes g.width.bytes (texts s w g.m) ys) → Some
            go nil j W P = absurd (omega arith)
            go (cons y ys) j W P = record {
              insides = record {
                four = inv.some.four;
                end = inv.some.end;
                symbols = ys;
                many = omega arith;
                within = next_within K.places K.names K.args inv.some.four inv.some.end y ys K.framed W P;
                placed = next_placed K.places K.names K.args inv.some.four inv.some.end y ys K.framed W P;
              };
              frame = record { places = K.places; names = K.names; args = K.args; framed = next_framed K.places K.names K.args inv.some.four inv.some.end y ys K.framed W P };
              long = next_long K.places K.names K.args inv.some.four inv.some.end y ys K.framed W P;
            }

        pub filling_next : Filling w' t (i - 1)
        filling_next = record {
          frame = next-some.frame;
          some = next-some.insides;
          long = next-some.long ∙ inv.long;
          each = λ ps names args four e ys F m W P. next_each ps names args four e ys (inv.each ps names args four e ys F m W P);
        }

pub ruleset filling = (rules, filling_start, filling_frame, filling_long, filling_done, filling_falls, filling_first, filling_next)
