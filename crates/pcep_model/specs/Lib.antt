-- The definitions of PCEP messages, of document 02's request [3]: objects in turn, METRICs, PCReq, PCRep.
pub mod Objects
pub mod Metrics
pub mod Pcreq
pub mod Pcrep
