-- The flat list of a program: its operations in the order of their code.
use Rattle.std.specs.Prelude.{ℕ, List, [], ◌∷◌, ◌++◌, map, length}
use Rattle.program.specs.declared.operation.Call.{Call}
use Rattle.program.specs.declared.operation.Head.{Head}
use Rattle.program.specs.declared.operation.Operation.{Operation}
use Rattle.program.specs.declared.operation.Operation.TheVariants as op
use Rattle.program.specs.Core.{Value, constant, load, load_element, negate, binary, new_array, length_of, convert, result, Values, no_values, and_value, Comparison, compare, Conjunction, single, both, Condition, only, either, Target, variable, element, Action, assign, step, read, print, invoke, discard, when, choose, while, break, return, give, block, nothing, Actions, no_actions, and_then, Method, count, variable_count}

-- a call, behind its arguments
abbrev pub call : ℕ → Values → Call
call m vs = record { method = m; arguments = count vs }

abbrev mutual
  pub flat_v : Value → List Operation
  flat_v (constant n) = op.Constant n ∷ []
  flat_v (load x) = op.Load x ∷ []
  flat_v (load_element k x v) = op.Load x ∷ (flat_v v ++ op.LoadElement k ∷ [])
  flat_v (negate v) = flat_v v ++ op.Negate ∷ []
  flat_v (binary o v u) = flat_v v ++ (flat_v u ++ op.Binary o ∷ [])
  flat_v (new_array k v) = flat_v v ++ op.NewArray k ∷ []
  flat_v (length_of v) = flat_v v ++ op.Length ∷ []
  flat_v (convert k v) = flat_v v ++ op.Convert k ∷ []
  flat_v (result m vs) = flat_vs vs ++ op.Result (call m vs) ∷ []

  pub flat_vs : Values → List Operation
  flat_vs no_values = []
  flat_vs (and_value v vs) = flat_v v ++ flat_vs vs

abbrev pub flat_comparison : Comparison → List Operation
flat_comparison (compare r v u) = flat_v v ++ (flat_v u ++ op.Compare r ∷ [])

abbrev pub flat_conjunction : Conjunction → List Operation
flat_conjunction (single c) = flat_comparison c
flat_conjunction (both c k) = flat_comparison c ++ op.And ∷ flat_conjunction k

abbrev pub flat_condition : Condition → List Operation
flat_condition (only k) = flat_conjunction k
flat_condition (either k c) = flat_conjunction k ++ op.Or ∷ flat_condition c

-- an element's array and index
abbrev pub flat_before : Target → List Operation
flat_before (variable x) = []
flat_before (element k x v) = op.Load x ∷ flat_v v

abbrev pub flat_store : Target → Operation
flat_store (variable x) = op.Store x
flat_store (element k x v) = op.StoreElement k

abbrev mutual
  pub flat_a : Action → List Operation
  flat_a (assign t v) = flat_before t ++ (flat_v v ++ flat_store t ∷ [])
  flat_a (step d (variable x)) = op.Step d x ∷ []
  flat_a (step d (element k x v)) = flat_before (element k x v) ++ op.StepElement d k ∷ []
  flat_a (read k t) = flat_before t ++ op.Read k ∷ (flat_store t ∷ [])
  flat_a (print k v n) = flat_v v ++ op.Print k n ∷ []
  flat_a (invoke m vs) = flat_vs vs ++ op.Invoke (call m vs) ∷ []
  flat_a (discard m vs) = flat_vs vs ++ op.Discard (call m vs) ∷ []
  flat_a (when c a) = flat_condition c ++ op.Then ∷ (flat_a a ++ op.EndIf ∷ [])
  flat_a (choose c a e) = flat_condition c ++ op.Then ∷ (flat_a a ++ op.Else ∷ (flat_a e ++ op.EndIf ∷ []))
  flat_a (while c a) = op.BeginWhile ∷ (flat_condition c ++ op.Do ∷ (flat_a a ++ op.EndWhile ∷ []))
  flat_a break = op.Break ∷ []
  flat_a return = op.Return ∷ []
  flat_a (give v) = flat_v v ++ op.Give ∷ []
  flat_a (block bs) = op.Begin ∷ (flat_as bs ++ op.End ∷ [])
  flat_a nothing = op.Nothing ∷ []

  pub flat_as : Actions → List Operation
  flat_as no_actions = []
  flat_as (and_then a bs) = flat_a a ++ flat_as bs

-- methods in the order of the text
abbrev pub flat_methods : List Method → List Operation
flat_methods [] = []
flat_methods (m ∷ ms) = flat_as m.body ++ op.EndMethod ∷ flat_methods ms

abbrev pub head_of : Method → Head
head_of m = record { position = m.position; parameters = length m.parameters; variables = variable_count m; result = m.result }

abbrev pub heads_of : List Method → List Head
heads_of ms = map head_of ms
