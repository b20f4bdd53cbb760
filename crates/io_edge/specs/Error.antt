-- The answer that a failed call of a source or a sink leads to.
use Rattle.io_edge.specs.declared.edge.IoFail.{IoFail}
use Rattle.io_edge.specs.declared.edge.IoFail.TheVariants.{Failed, Memory}
use Rattle.io_edge.specs.declared.error.ReadError.{ReadError}
use Rattle.io_edge.specs.declared.error.ReadError.TheVariants.{ReadFault, Memory as read_memory}
use Rattle.io_edge.specs.declared.error.WriteError.{WriteError}
use Rattle.io_edge.specs.declared.error.WriteError.TheVariants.{WriteFault, Memory as write_memory}

-- a source that failed is a fault of reading
abbrev pub read_error : IoFail → ReadError
read_error Failed = ReadFault
read_error Memory = read_memory

-- a sink that failed is a fault of writing
abbrev pub write_error : IoFail → WriteError
write_error Failed = WriteFault
write_error Memory = write_memory
