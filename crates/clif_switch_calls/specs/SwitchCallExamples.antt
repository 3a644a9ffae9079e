-- Worked out: the search among four ranges, and the plain calls of a switch at 128 bits.
use Rattle.std.specs.Prelude.{◌≡◌, ◌^◌, ◌+◌, ◌-◌, ℕ, pos, negsuc, List, [], ◌∷◌, Some, None}
use Rattle.std.specs.Borrow.{Bor}
use Rattle.std.specs.FinMap as finite
use Rattle.clif_opcodes.specs.declared.opcodes.BinaryOpcode.TheVariants.{Iadd, Isub}
use Rattle.clif_opcodes.specs.declared.opcodes.ConvertOpcode.TheVariants.{Ireduce, Sextend}
use Rattle.clif_types.specs.declared.condcodes.IntCC.TheVariants as cc
use Rattle.clif_types.specs.declared.types.LaneType.TheVariants as lane
use Rattle.clif_types.specs.declared.types.«Type».{«Type»}
use Rattle.clif_types.specs.declared.types.«Type».TheVariants as type
use Rattle.clif_ranges.specs.declared.ranges.CaseRange.{CaseRange}
use Rattle.clif_ranges.specs.declared.search.Next.TheVariants as next
use Rattle.clif_ranges.specs.declared.search.Node.{Node}
use Rattle.clif_ranges.specs.declared.search.Test.TheVariants as test
use Rattle.clif_ranges.specs.Cases.{CaseMap}
use Rattle.clif_ranges.specs.Search.{AreInOrder, search}
use Rattle.clif_meaning.specs.Acceptance.{table_branch}
use Rattle.clif_meaning.specs.Instruction.{Binary, Compare, Concat, Convert, Iconst}
use Rattle.clif_meaning.specs.Name.{answer_of}
use Rattle.clif_meaning.specs.Request.{AppendFunctionParams, CreateBlock, SwitchToBlock, SealBlock, MakeEdge, MakeJumpTable, Build, ServedBy, Script}
use Rattle.clif_expansion.specs.Constants.{computing, i64}
use Rattle.clif_expansion.specs.Emission.{building}
use Rattle.clif_expansion.specs.Switching.{IsSwitchCode}
use Rattle.clif_switch_calls.specs.SwitchCalls.{Switched, bare_edge, branching, difference, i32, i8, nodes_calls}

-- the range has this first key, and the blocks of it and of the keys after it
abbrev pub HasBlocks : Bor CaseRange → (first : ℕ) → List ℕ → Type 0
HasBlocks range first blocks = (range.now.first ≡ first) × (range.now.blocks.items ≡ blocks)

-- The ranges of the keys 0 and 1, 5, 7, and 10 to 12. They are split before 7, and both parts are tested from the higher range down.
abbrev pub four_nodes : (zero five seven ten : Bor CaseRange) → List Node
four_nodes zero five seven ten =
    record { number = 0; test = test.NotBelow 7 2 (next.Node 1) }
    ∷ record { number = 2; test = test.NotBelow 10 4 (next.Node 3) }
    ∷ record { number = 4; test = test.Table ten }
    ∷ record { number = 3; test = test.OneKey seven next.Otherwise }
    ∷ record { number = 1; test = test.OneKey five (next.Node 5) }
    ∷ record { number = 5; test = test.Table zero }
    ∷ []

-- The range of the keys 2^63 and 2^63 + 1.
abbrev pub far_nodes : Bor CaseRange → List Node
far_nodes range =
    record { number = 0; test = test.NotBelow (2 ^ 63) 1 next.Otherwise }
    ∷ record { number = 1; test = test.Table range }
    ∷ []

abbrev pub i128 : «Type»
i128 = type.Lane lane.I128

-- a value of 128 bits, the block of other keys, and the blocks of cases
abbrev pub far_switch : Switched
far_switch = record { ty = i128; value = answer_of 1 0; otherwise = answer_of 2 0; named = λ block. answer_of (3 - block) 0 }

-- its plain calls, from the place 10 on
abbrev pub far_calls : Script
far_calls =
    CreateBlock
    -- whether it isn't below the first key, made of two halves
    ∷ building (computing (Iconst (negsuc (2 ^ 63 - 1))) i64 [])
    ∷ building (computing (Iconst (pos 0)) i64 [])
    ∷ building (computing Concat i64 (answer_of 11 1 ∷ answer_of 12 1 ∷ []))
    ∷ building (computing (Compare cc.UnsignedGreaterThanOrEqual) i128 (answer_of 1 0 ∷ answer_of 13 1 ∷ []))
    ∷ branching i8 (answer_of 14 1) (answer_of 10 0) (answer_of 2 0)
    ∷ SealBlock (answer_of 10 0)
    ∷ SwitchToBlock (answer_of 10 0)
    -- the table
    ∷ MakeEdge (bare_edge (answer_of 2 0))
    ∷ MakeEdge (bare_edge (answer_of 3 0))
    ∷ MakeEdge (bare_edge (answer_of 2 0))
    ∷ MakeJumpTable (answer_of 18 0) (answer_of 19 0 ∷ answer_of 20 0 ∷ [])
    -- the difference with the first key, by a sum
    ∷ building (computing (Iconst (negsuc (2 ^ 63 - 1))) i64 [])
    ∷ building (computing (Convert Sextend) i128 (answer_of 22 1 ∷ []))
    ∷ building (computing (Binary Iadd) i128 (answer_of 1 0 ∷ answer_of 23 1 ∷ []))
    -- whether that has more than 32 bits
    ∷ CreateBlock
    ∷ building (computing (Iconst (pos (2 ^ 32 - 1))) i64 [])
    ∷ building (computing (Convert Sextend) i128 (answer_of 26 1 ∷ []))
    ∷ building (computing (Compare cc.UnsignedGreaterThan) i128 (answer_of 24 1 ∷ answer_of 27 1 ∷ []))
    ∷ branching i8 (answer_of 28 1) (answer_of 2 0) (answer_of 25 0)
    ∷ SealBlock (answer_of 25 0)
    ∷ SwitchToBlock (answer_of 25 0)
    ∷ building (computing (Convert Ireduce) i32 (answer_of 24 1 ∷ []))
    ∷ Build (ServedBy 0 ∷ []) (table_branch (answer_of 32 1) (bare_edge (answer_of 2 0) ∷ bare_edge (answer_of 3 0) ∷ bare_edge (answer_of 2 0) ∷ []))
    ∷ []

-- A function of a number of 8 bits, with a block of other keys and one of a case,
abbrev pub one_plain : Script
one_plain = CreateBlock ∷ CreateBlock ∷ CreateBlock ∷ AppendFunctionParams (answer_of 0 0) (i8 ∷ []) ∷ SwitchToBlock (answer_of 0 0) ∷ []

-- which switches on the number,
abbrev pub one_switch : Switched
one_switch = record { ty = i8; value = answer_of 3 0; otherwise = answer_of 1 0; named = λ block. answer_of 2 0 }

-- by one key,
abbrev pub one_node : Bor CaseRange → List Node
one_node range = record { number = 0; test = test.OneKey range next.Otherwise } ∷ []

-- which is 5.
abbrev pub one_calls : Script
one_calls =
    building (computing (Iconst (pos 5)) i8 [])
    ∷ building (computing (Compare cc.Equal) i8 (answer_of 3 0 ∷ answer_of 5 1 ∷ []))
    ∷ branching i8 (answer_of 6 1) (answer_of 2 0) (answer_of 1 0)
    ∷ []

pub record SwitchCallExamples : Type 0 where
  -- the table of 12 stands behind two branches
  pub twelve : (zero five seven ten : Bor CaseRange) → HasBlocks ten 10 (4 ∷ 5 ∷ 6 ∷ []) → search (four_nodes zero five seven ten) 0 12 ≡ record { block = Some 6; branches = 2 }
  -- there is no case of 9, which three branches find
  pub nine : (zero five seven ten : Bor CaseRange) → HasBlocks seven 7 (3 ∷ []) → search (four_nodes zero five seven ten) 0 9 ≡ record { block = None; branches = 3 }
  -- control comes to each node from one test, in front of it
  pub order : (zero five seven ten : Bor CaseRange) → AreInOrder (0 ∷ []) 1 (four_nodes zero five seven ten)
  pub far : (range : Bor CaseRange) → HasBlocks range (2 ^ 63) (0 ∷ 1 ∷ []) → nodes_calls far_switch [] 0 (far_nodes range) 10 ≡ far_calls
  -- what is farther is subtracted, made of two halves
  pub farther : difference i128 (2 ^ 63 + 1) 10 (answer_of 1 0)
      ≡ computing (Iconst (negsuc (2 ^ 63 - 2))) i64 [] ∷ computing (Iconst (pos 0)) i64 [] ∷ computing Concat i64 (answer_of 10 1 ∷ answer_of 11 1 ∷ [])
      ∷ computing (Binary Isub) i128 (answer_of 1 0 ∷ answer_of 12 1 ∷ []) ∷ []
  -- the law's premises are met: these calls are code of the switch
  pub one : (cases : CaseMap) (range : Bor CaseRange) → finite.entries cases ≡ (5, 0) ∷ [] → HasBlocks range 5 (0 ∷ [])
      → IsSwitchCode one_plain one_calls (answer_of 0 0) (answer_of 3 0) i8 (5 ∷ []) (bare_edge (answer_of 2 0) ∷ bare_edge (answer_of 1 0) ∷ []) 2 1
