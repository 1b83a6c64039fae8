pub mod Send
pub mod SendFolds
pub mod Recv
pub mod RecvFolds
