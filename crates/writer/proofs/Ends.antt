-- What is had of a writer that was passed by value, where the function ends. The laws assume `Logic`.
use mathlib.Core.Path.{refl}
use mathlib.Core.List.{List, [], ◌∷◌}
use seplogic.Ra.Ura.{Ura}
use mir.Syntax.{Sym, named}
use base.Fml.{ftrue}
use types.Logic.{Logic}
use types.Kit.{‵, ◌$◌, ◌∵◌, !, qed, updating, now as at_once, fjoin, done}
use denote.Builtin.{u8, usize}
use denote.Exit.{yes, no}
use denote.Signature.{Slot, plain, mut_slice, named_lft}
use denote.Signature.Struct.{struct_at}
use denote.Steps.{nothing}
use denote.Triple.Walked.{Stay, Fields, stay_none, stay_slice, stay_dropped, stay_struct_at, stay_declared, Goes, Goes-none, Goes-slice, Goes-struct_at, Goes-declared}
use Rattle.writer.specs.declared.Writer.{Writer}
use Rattle.writer.specs.contracts.Writer as T

-- a writer that the result takes over, in a signature of two lifetimes of which it has the first: nothing is asked of its two fields, which is `true` and `true`
abbrev pub WriterS : Slot 2
WriterS = plain (λ κs. T.the_row (named_lft 2 0 tt κs))

abbrev pub writer-spent : Stay WriterS no
writer-spent = stay_dropped WriterS no

pub writer-spent-goes : {M : Type 1} {𝓤 : Ura M} (𝓛 : Logic 𝓤) → Goes 𝓛 2 WriterS no writer-spent
writer-spent-goes 𝓛 κs x f vs ok = qed 𝓛 (‵ ftrue ∷ []) ∵ updating ! $ at_once ! $ nothing ! $ fjoin ! $ done !

-- a writer whose lifetime is the only one, and ends with the call: its borrow is still owned, at its last list
abbrev LastS : Slot 1
LastS = plain (λ κs. T.the_row (named_lft 1 0 tt κs))

abbrev fields : List (Slot 1)
fields = mut_slice 0 tt (λ _. u8) ∷ plain (λ _. usize) ∷ []

abbrev stays : Fields fields yes
stays = (stay_slice (0 ∷ []) tt (plain (λ _. u8)), (stay_none (λ _. usize) yes, tt))

abbrev name : Sym
name = (T.struct (named_lft 1 0 tt ([], tt))).name

abbrev pub writer-stays : Stay LastS yes
writer-stays = stay_declared (struct_at name (named 0 ∷ []) fields) yes (stay_struct_at name (named 0 ∷ []) fields yes stays) Writer (λ κs. (T.the_type (named_lft 1 0 tt κs)).to) (λ κs. (T.the_type (named_lft 1 0 tt κs)).to_one)

pub writer-stays-goes : {M : Type 1} {𝓤 : Ura M} (𝓛 : Logic 𝓤) → Goes 𝓛 1 LastS yes writer-stays
writer-stays-goes 𝓛 =
    Goes-declared 𝓛 1 (struct_at name (named 0 ∷ []) fields) yes (stay_struct_at name (named 0 ∷ []) fields yes stays) Writer (λ κs. (T.the_type (named_lft 1 0 tt κs)).to) (λ κs. (T.the_type (named_lft 1 0 tt κs)).to_one)
    (Goes-struct_at 𝓛 1 name (named 0 ∷ []) fields yes stays (Goes-slice 𝓛 1 0 tt (plain (λ _. u8)), (Goes-none 𝓛 1 (λ _. usize) yes (λ κs x f. refl), tt)))
