-- How runs are counted: each under what it came to.
use Rattle.lg_base.specs.declared.fault.FaultKind.TheVariants.{Fetch, Decode, Memory, Align, Divide, Flag, Host}
use Rattle.lg_cpu.specs.declared.answer.CpuStep.{CpuStep}
use Rattle.lg_cpu.specs.declared.answer.CpuStep.TheVariants.{Went, Ended, Fault, WriteFault}
use Rattle.lg_tally.specs.Counts.{one_more}
use Rattle.lg_evidence.specs.declared.any_code.tally.Tally.{Tally}

abbrev pub counted : CpuStep → Tally → Tally
counted Went t = record t { went_on = one_more t.went_on }
counted (Ended status) t = record t { ended = one_more t.ended }
counted WriteFault t = record t { write = one_more t.write }
counted (Fault Fetch) t = record t { fetch = one_more t.fetch }
counted (Fault Decode) t = record t { decode = one_more t.decode }
counted (Fault Memory) t = record t { memory = one_more t.memory }
counted (Fault Align) t = record t { align = one_more t.align }
counted (Fault Divide) t = record t { divide = one_more t.divide }
counted (Fault Flag) t = record t { flag = one_more t.flag }
counted (Fault Host) t = record t { host = one_more t.host }
