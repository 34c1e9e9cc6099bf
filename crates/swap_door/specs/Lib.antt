pub mod TcpLinks
pub mod SocketAddresses
